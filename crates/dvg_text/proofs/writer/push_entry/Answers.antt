use Rattle.dvg_text.proofs.Common.{arith, common_steps}
use Rattle.dvg_text.proofs.Spelled.{spelled_entry}
use Rattle.dvg_text.proofs.writer.push_entry.Goals as goal

pub push_address-requires-clause-room : goal.push_address-requires-clause-room
push_address-requires-clause-room c = grind (arith, common_steps)

pub push_key-requires-clause-room : goal.push_key-requires-clause-room
push_key-requires-clause-room c = grind (arith, common_steps)

pub push_token-requires : goal.push_token-requires
push_token-requires c = grind (arith, common_steps)

pub push_end-requires-clause-room : goal.push_end-requires-clause-room
push_end-requires-clause-room c = grind (arith, common_steps)

pub push_token-requires-2 : goal.push_token-requires-2
push_token-requires-2 c = grind (arith, common_steps)

pub push_box-requires-clause-room : goal.push_box-requires-clause-room
push_box-requires-clause-room c = grind (arith, common_steps)

pub push_token-requires-3 : goal.push_token-requires-3
push_token-requires-3 c = grind (arith, common_steps)

pub push_natural-requires-clause-room : goal.push_natural-requires-clause-room
push_natural-requires-clause-room c = grind (arith, common_steps)

pub push_token-requires-4 : goal.push_token-requires-4
push_token-requires-4 c = grind (arith, common_steps)

pub push_natural-requires-2-clause-room : goal.push_natural-requires-2-clause-room
push_natural-requires-2-clause-room c = grind (arith, common_steps)

pub push_token-requires-5 : goal.push_token-requires-5
push_token-requires-5 c = grind (arith, common_steps)

pub push_key-requires-2-clause-room : goal.push_key-requires-2-clause-room
push_key-requires-2-clause-room c = grind (arith, common_steps)

pub push_bytes-requires-2 : goal.push_bytes-requires-2
push_bytes-requires-2 c = grind (arith, common_steps)

pub returns : goal.returns
returns c = grind (arith, spelled_entry)
