use Rattle.dvg_check.proofs.Common.{subst, pos, arith, IsNearExtent, origin_shift}
use Rattle.dvg_check.proofs.TailSizes.{IsNearBox-spanning}
use Rattle.dvg_check.proofs.tail.box_of.Goals as goal

pub returns-in-Between-clause-lit : goal.returns-in-Between-clause-lit
returns-in-Between-clause-lit c = grind (arith, pos, origin_shift)

pub returns-in-Between-clause-near : goal.returns-in-Between-clause-near
returns-in-Between-clause-near c =
    let near = subst IsNearExtent c.in-Between.is c.requires in
    IsNearBox-spanning 1 c.in-Between.from c.in-Between.to c.spanning.result near.0 near.1 c.spanning.ensures.first c.spanning.ensures.least
