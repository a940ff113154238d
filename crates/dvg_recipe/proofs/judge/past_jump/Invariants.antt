use Rattle.dvg_recipe.proofs.Common.{◌≡◌, List, None, take}
use Rattle.dvg_recipe.specs.Private.Judging.{IsJump}
use Rattle.dvg_recipe.specs.Private.Hulls.{LeadOn}
use Rattle.dvg_cert.specs.declared.entry.Entry.{Entry}
use Rattle.dvg_recipe.proofs.judge.past_jump.Given as goal

abbrev pub invariant-loop-hull : goal.invariant-loop-hull
invariant-loop-hull l =
    ((list : List Entry) → l.broken ≡ None → LeadOn l.asked.window list l.asked.budget IsJump (take l.hull-index l.here) l.next.items)
    × (l.notes ≡ l.fn.notes)
