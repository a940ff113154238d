use Rattle.dvg_recipe.specs.Private.Indices.{IsPast, TimesOver, Turns, PartLeads}
use Rattle.dvg_recipe.proofs.belonging.+past_part.Given as goal

abbrev pub invariant-past_repeat-loop : goal.invariant-past_repeat-loop
invariant-past_repeat-loop l = IsPast (TimesOver l.counter (PartLeads l.body l.places)) l.fn.here.items l.here.items

abbrev pub invariant-past_repeat-loop-2 : goal.invariant-past_repeat-loop-2
invariant-past_repeat-loop-2 l =
    IsPast (TimesOver l.counter (PartLeads l.body l.places)) l.fn.here.items l.here.items
    × IsPast (Turns l.least l.counter (PartLeads l.body l.places)) l.fn.here.items l.next.items
