-- The least box of what items light, at relative places and at absolute ones. All of it is this project's own.
use Rattle.std.specs.Prelude.{List, [], ◌∷◌, ◌++◌}
use Rattle.std.specs.List.{AllByRecursion}
use Rattle.dvg_words.specs.declared.beam.Point.{Point}
use Rattle.dvg_cert.specs.declared.entry.End.{End}
use Rattle.dvg_cert.specs.declared.entry.LitBox.{LitBox}
use Rattle.dvg_items.specs.declared.item.Item.{Item}
use Rattle.dvg_items.specs.Known.{Context, place_before}
use Rattle.dvg_items.specs.Seen.{extent}
use Rattle.dvg_items.specs.Lit.{LitExtent, InBox, IsInside, absolute_corners, relative_corners}

-- the corners that `corners_at` gives for what each item lights and the place before it (profile)
abbrev pub corner_points : (LitExtent → End → List Point) → Context → List Item → List Point
corner_points corners_at c [] = []
corner_points corners_at c (i ∷ earlier) =
    corners_at (extent c earlier i.instr) (place_before c earlier) ++ corner_points corners_at c earlier

-- at relative places, both ends of each lit draw, and both corners of each called box, moved to the place (profile)
abbrev pub lit_points : Context → List Item → List Point
lit_points c items = corner_points relative_corners c items

-- at absolute places, both ends of each lit draw, and both corners of each called box, moved to the place (profile)
abbrev pub absolute_points : Context → List Item → List Point
absolute_points c items = corner_points absolute_corners c items

-- the box holds all of these points (profile)
abbrev pub HoldsAll : LitBox → List Point → Type 0
HoldsAll box ps = AllByRecursion (InBox box) ps

-- the box holds these points, and lies in each box that holds them (profile)
pub record IsLeast (ps : List Point) (box : LitBox) : Type 0 where
  pub holds : HoldsAll box ps
  pub least : (other : LitBox) → HoldsAll other ps → IsInside box other
