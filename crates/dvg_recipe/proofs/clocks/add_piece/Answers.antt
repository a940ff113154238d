use Rattle.dvg_recipe.proofs.Common.{List, ℕ, sym, subst}
use Rattle.dvg_clocks.specs.Kept.{clocks_in}
use Rattle.dvg_recipe.specs.Recipes.{TakesCall}
use Rattle.dvg_recipe.specs.Private.Clocks.{AreAlike, TakeOn}
use Rattle.dvg_recipe.proofs.Spending.{on_fewer, on_kind, on_ok_then}
use Rattle.dvg_recipe.proofs.clocks.add_piece.Goals as goal

pub returns-in-Place : goal.returns-in-Place
returns-in-Place g c =
    on_ok_then c.add_places.result _ _
    (on_kind c.args.counting.now.timing.now.states (g.E.Entries.list c.args.counting.now.entries.now)
    (clocks_in c.args.counting.now.shapes.now) _ c.args.piece.now.kind c.args.here.now c.add_places.new.next (sym c.in-Place.is))
    c.add_places.ensures.past

pub returns-in-Call : goal.returns-in-Call
returns-in-Call g c =
    on_ok_then c.add_calls.result _ _
    (λ h. on_kind c.args.counting.now.timing.now.states (g.E.Entries.list c.args.counting.now.entries.now)
    (clocks_in c.args.counting.now.shapes.now) _ c.args.piece.now.kind c.args.here.now c.add_calls.new.next (sym c.in-Call.is)
    (subst (λ (l : List ℕ). TakeOn c.args.counting.now.timing.now.states (g.E.Entries.list c.args.counting.now.entries.now)
    (clocks_in c.args.counting.now.shapes.now) (λ i. TakesCall l i.instr) c.args.here.now c.add_calls.new.next) c.deref.ensures.value
    h))
    c.add_calls.ensures.past

pub returns-in-Draw : goal.returns-in-Draw
returns-in-Draw g c =
    on_ok_then c.add_item.result _ _
    (λ h. on_kind c.args.counting.now.timing.now.states (g.E.Entries.list c.args.counting.now.entries.now)
    (clocks_in c.args.counting.now.shapes.now) _ c.args.piece.now.kind c.args.here.now c.add_item.new.next (sym c.in-Draw.is)
    (on_fewer c.args.counting.now.timing.now.states (g.E.Entries.list c.args.counting.now.entries.now)
    (clocks_in c.args.counting.now.shapes.now) (AreAlike c.args.counting.now.timing.now.states c.draw_of.result) _ c.args.here.now
    c.add_item.new.next (λ i taken. c.draw_of.ensures.alike c.args.counting.now.timing.now.states i taken) h))
    c.add_item.ensures.past

pub returns-in-Fixed : goal.returns-in-Fixed
returns-in-Fixed g c =
    on_ok_then c.add_fixed.result _ _
    (on_kind c.args.counting.now.timing.now.states (g.E.Entries.list c.args.counting.now.entries.now)
    (clocks_in c.args.counting.now.shapes.now) _ c.args.piece.now.kind c.args.here.now c.add_fixed.new.next (sym c.in-Fixed.is))
    c.add_fixed.ensures.past
