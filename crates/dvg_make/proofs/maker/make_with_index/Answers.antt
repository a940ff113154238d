use Rattle.dvg_make.proofs.Common.{rules}
use Rattle.dvg_make.proofs.maker.make_with_index.Goals as goal

pub returns-in-Err-clause-told : goal.returns-in-Err-clause-told
returns-in-Err-clause-told c = search rules
