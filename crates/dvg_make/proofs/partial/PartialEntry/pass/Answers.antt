use Rattle.dvg_make.proofs.Common.{refl}
use Rattle.dvg_make.proofs.partial.PartialEntry.pass.Goals as goal
use Rattle.dvg_make.proofs.Common.{rules}

pub returns-in-Some-clause-err : goal.returns-in-Some-clause-err
returns-in-Some-clause-err c =
    rw c.obstacle.ensures (refl, rw c.see-seen.ensures.value at (c.in-Some.ensures.some c.args.self.now.cursor.known.scale))

pub returns-clause-ok : goal.returns-clause-ok
returns-clause-ok c = search rules
