-- The known place, from all items at once: where the latest item that sets or loses it left it, and all moves since then.
-- No rule uses this; a law says that it is the known place. All of it is this project's own.
use Rattle.std.specs.Prelude.{◌≡◌, List, [], ◌∷◌}
use Rattle.dvg_words.specs.declared.beam.Point.{Point}
use Rattle.dvg_words.specs.Beam.{origin, shift}
use Rattle.dvg_cert.specs.declared.entry.End.{End}
use Rattle.dvg_cert.specs.declared.entry.End.TheVariants.{Abs, Lost}
use Rattle.dvg_items.specs.Items.{Item}
use Rattle.dvg_items.specs.Known.{Context, Effect, Sets, Loses, Moves, callee, effect_of, first_place, place_before, place_moved_by, scale_before}

-- f of each item and the items before it, the latest first
abbrev pub map_with_earlier : {X : Type 0} → (List Item → Item → X) → List Item → List X
map_with_earlier f [] = []
map_with_earlier f (i ∷ earlier) = f earlier i ∷ map_with_earlier f earlier

-- the effects of the items, the latest first
abbrev pub effects : Context → List Item → List Effect
effects c earlier = map_with_earlier (λ before i. effect_of c.machine i.instr (scale_before c before) (callee c before i.instr)) earlier

-- the place that the latest setting or losing effect leaves, or the start if there is none
abbrev pub fixed_place : End → List Effect → End
fixed_place first [] = first
fixed_place first (Sets p ∷ earlier) = Abs p.x p.y
fixed_place first (Loses ∷ earlier) = Lost
fixed_place first (Moves d ∷ earlier) = fixed_place first earlier

-- the sum of the moves after that effect
abbrev pub total_move : List Effect → Point
total_move [] = origin
total_move (Sets p ∷ earlier) = origin
total_move (Loses ∷ earlier) = origin
total_move (Moves d ∷ earlier) = shift (total_move earlier) d

-- the known place is the fixed place, moved by the total move
abbrev pub PlaceFromAll : Type 0
PlaceFromAll =
    (c : Context) (earlier : List Item)
    → place_before c earlier ≡ place_moved_by (fixed_place (first_place c.kind) (effects c earlier)) (total_move (effects c earlier))
