use Rattle.dvg_recipe.proofs.Common.{◌+◌, Contains, take, subst, sym, arith, take_all, Contains-get_or}
use Rattle.dvg_recipe.specs.Recipes.{Area}
use Rattle.dvg_recipe.proofs.Longest.{AreNoSmaller, smallest_same, smallest_new, smallest_is}
use Rattle.dvg_recipe.proofs.lengths.smallest.Goals as goal
use Rattle.dvg_recipe.proofs.lengths.smallest.Goals.{then-area_words, else-area_words}

pub loop-area-preserved : goal.loop-area-preserved
loop-area-preserved c =
    let areas = c.args.areas.now in
    let index = c.loop-area.area-index in
    elim c.if-area_words.branch [
      | then-area_words w ↦ (
        subst (λ (a : Area). Contains areas a) (sym w.least-is) (Contains-get_or areas index _ c.loop-area-test.true),
        subst (λ (a : Area). AreNoSmaller a (take (index + 1) areas)) (sym w.least-is)
            (smallest_new areas index (index + 1) (record { first = 0; last = 0 }) (omega arith) c.loop-area-test.true c.loop-area.least
            c.loop-area.invariant.1 (omega (arith, w.if-area_words.true, c.area_words.ensures, c.area_words-in-loop-area.ensures))),
      )
      | else-area_words w ↦ (
        subst (λ (a : Area). Contains areas a) (sym w.least-is) c.loop-area.invariant.0,
        subst (λ (a : Area). AreNoSmaller a (take (index + 1) areas)) (sym w.least-is)
            (smallest_same areas index (index + 1) (record { first = 0; last = 0 }) (omega arith) c.loop-area-test.true c.loop-area.least
            c.loop-area.invariant.1 (omega (arith, w.if-area_words.false, c.area_words.ensures, c.area_words-in-loop-area.ensures))),
      )
    ]

pub returns-clause-some : goal.returns-clause-some
returns-clause-some c =
    let areas = c.args.areas.now in
    smallest_is areas c.loop-area.least c.loop-area.invariant.0
    (subst (AreNoSmaller c.loop-area.least) (take_all c.loop-area.area-index areas c.loop-area-test.false) c.loop-area.invariant.1)
