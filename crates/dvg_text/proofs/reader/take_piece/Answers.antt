use Rattle.dvg_text.proofs.Common.{arith, common_steps}
use Rattle.dvg_text.proofs.reader.take_piece.Goals as goal

pub returns-in_err-rest : goal.returns-in_err-rest
returns-in_err-rest c = grind (arith, common_steps)

pub loop-after-init : goal.loop-after-init
loop-after-init c = grind (arith, common_steps)
