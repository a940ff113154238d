use Rattle.std.proofs.Common.{arith}
use Rattle.std.proofs.lemmas.Nat.{ones-le}
use Rattle.dvg_dumps.proofs.measuring.ones.Goals as goal

pub returns-clause-few : goal.returns-clause-few
returns-clause-few c = ones-le 8 c.args.byte (omega arith)
