use Rattle.dvg_make.proofs.judging.judged_shapes.Goals as goal
use Rattle.dvg_make.proofs.Common.{rules}

pub unchecked-requires-clause-good : goal.unchecked-requires-clause-good
unchecked-requires-clause-good c = rw c.requires.made.entries c.in_default.ensures.ok

pub returns-clause-ok : goal.returns-clause-ok
returns-clause-ok c = rw (← c.requires.made.entries) c.unchecked.ensures

pub returns-then-not-has_few_to_walk : goal.returns-then-not-has_few_to_walk
returns-then-not-has_few_to_walk c = search rules
