use Rattle.dvg_clocks.specs.Kept.{clocks_in}
use Rattle.dvg_recipe.specs.Recipes.{Spells}
use Rattle.dvg_recipe.specs.Private.Judging.{TimesOver, Turns}
use Rattle.dvg_recipe.specs.Private.Clocks.{Spend}
use Rattle.dvg_recipe.proofs.clocks.+past_part.Given as goal

abbrev pub invariant-past_turns-loop : goal.invariant-past_turns-loop
invariant-past_turns-loop g l =
    Spend l.counting.timing.now.states (g.E.Entries.list l.counting.entries.now) (clocks_in l.counting.shapes.now)
    (TimesOver l.counter (Spells l.body)) l.here l.there

abbrev pub invariant-past_turns-loop-2 : goal.invariant-past_turns-loop-2
invariant-past_turns-loop-2 g l =
    Spend l.counting.timing.now.states (g.E.Entries.list l.counting.entries.now) (clocks_in l.counting.shapes.now)
    (TimesOver l.counter (Spells l.body)) l.here l.there
    × Spend l.counting.timing.now.states (g.E.Entries.list l.counting.entries.now) (clocks_in l.counting.shapes.now)
    (Turns l.least l.counter (Spells l.body)) l.here l.all
