use Rattle.dvg_recipe.specs.Recipes.{Spells}
use Rattle.dvg_recipe.specs.Private.Hulls.{AreUnder}
use Rattle.dvg_recipe.specs.Private.Judging.{Carries, IfFine, TimesOver, Turns}
use Rattle.dvg_recipe.proofs.judge.+add_part.Given as goal

abbrev pub invariant-add_repeat-loop : goal.invariant-add_repeat-loop
invariant-add_repeat-loop g l =
    IfFine l.fn.notes l.notes (Carries l.asked.window (g.E.Entries.list l.entries) l.asked.budget (TimesOver l.counter (Spells l.body))
    l.here l.there.items)

abbrev pub invariant-add_repeat-loop-2 : goal.invariant-add_repeat-loop-2
invariant-add_repeat-loop-2 g l =
    IfFine l.fn.notes l.notes
    (Carries l.asked.window (g.E.Entries.list l.entries) l.asked.budget (TimesOver l.counter (Spells l.body)) l.here l.there.items
    × Carries l.asked.window (g.E.Entries.list l.entries) l.asked.budget (Turns l.least l.counter (Spells l.body)) l.here l.next.items)
    × AreUnder l.fn.next.items l.next.items
