use Rattle.dvg_recipe.proofs.Common.{take, Contains}
use Rattle.dvg_recipe.specs.Private.Hulls.{Hull}
use Rattle.dvg_recipe.specs.Private.Judging.{IsCounted}
use Rattle.dvg_recipe.proofs.judge.counts.Given as goal

abbrev pub invariant-loop-hull : goal.invariant-loop-hull
invariant-loop-hull l = (h : Hull) → Contains (take l.hull-index l.here) h → IsCounted l.yes.words l.yes.depth h
