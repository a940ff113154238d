-- At which absolute whole places a call of an entry breaks no rule on the window. All of it is this project's own.
use Rattle.std.specs.Prelude.{◌≡◌, ℕ, ℤ, pos, ◌*ℤ◌, ◌≤ℤ◌, ◌↔◌, List, [], ◌∷◌, Some}
use Rattle.dvg_words.specs.Values.{Window}
use Rattle.dvg_words.specs.Memory.{Rom, rom_word}
use Rattle.dvg_cert.specs.declared.entry.End.{End}
use Rattle.dvg_cert.specs.declared.entry.End.TheVariants.{Abs}
use Rattle.dvg_cert.specs.declared.entry.Entry.{Entry}
use Rattle.dvg_items.specs.declared.item.Item.{Item}
use Rattle.dvg_items.specs.declared.item.Kind.TheVariants.{Shape}
use Rattle.dvg_items.specs.Items.{LeadsTo}
use Rattle.dvg_items.specs.Lit.{LitInWindow, callee_extent}
use Rattle.dvg_items.specs.declared.seen.Seen.{Seen}
use Rattle.dvg_check.specs.Rules.{ShapePlaceKeeps}
use Rattle.dvg_check.specs.declared.fault.Mode.TheVariants.{Bound}
use Rattle.dvg_check.specs.declared.fault.ShapeWhy.TheVariants as shape
use Rattle.dvg_survey.specs.Calls.{Call}
use Rattle.dvg_survey.specs.Chains.{LeadsOn}
pub use Rattle.dvg_survey.specs.declared.places.Rectangle.{Rectangle}
pub use Rattle.dvg_survey.specs.declared.places.CallPlaces.{CallPlaces}
pub use Rattle.dvg_survey.specs.declared.places.CallPlaces.TheVariants.{Anywhere, Nowhere, Within}
pub use Rattle.dvg_survey.specs.declared.places.EntryPlaces.{EntryPlaces}

-- ---- a value

-- the place lies in the rectangle, edges included
pub record InRectangle (r : Rectangle) (x y : ℤ) : Type 0 where
  pub left : r.x_min ≤ℤ x
  pub right : x ≤ℤ r.x_max
  pub bottom : r.y_min ≤ℤ y
  pub top : y ≤ℤ r.y_max

-- the place, in screen places, is one of those that a value gives
abbrev pub HasPlace : CallPlaces → ℤ → ℤ → Type 0
HasPlace Anywhere x y = Unit {0}
HasPlace Nowhere x y = ⊥
HasPlace (Within r) x y = InRectangle r x y

-- a rectangle that is given has a place
abbrev pub IsNotEmpty : CallPlaces → Type 0
IsNotEmpty Anywhere = Unit {0}
IsNotEmpty Nowhere = Unit {0}
IsNotEmpty (Within r) = InRectangle r r.x_min r.y_min

-- ---- what is asked of a place

-- the absolute place of whole screen places
abbrev pub whole_place : ℤ → ℤ → End
whole_place x y = Abs (pos 1024 *ℤ x) (pos 1024 *ℤ y)

-- what the rules see of a call or tail jump that names this entry at such a place: rules 46 and 25 look at no more
pub record IsCallAt (e : Entry) (x y : ℤ) (v : Seen) : Type 0 where
  pub place : v.place ≡ whole_place x y
  pub extent : v.extent ≡ callee_extent (Some e)

-- a call of the entry at such a place keeps the rule on the window, 46 in a frame and 25 in a shape
abbrev pub CallKeeps : Window → Entry → ℤ → ℤ → Type 0
CallKeeps w e x y = LitInWindow w (callee_extent (Some e)) (whole_place x y)

-- each item of the entry's own shape keeps rule 25
abbrev pub ShapeKeepsWindow : Window → Rom → List Entry → Entry → Type 0
ShapeKeepsWindow w rom list e =
    (items : List Item) (p : ℕ) → LeadsTo Shape (rom_word rom) e.addr items p → ShapePlaceKeeps Bound w rom list e items p shape.OffScreen

-- so does each shape to which calls and tail jumps lead from the entry, its own among them
abbrev pub ShapesKeepWindow : Window → Rom → List Entry → Entry → Type 0
ShapesKeepWindow w rom list e = (calls : List Call) (goal : Entry) → LeadsOn rom list e calls goal → ShapeKeepsWindow w rom list goal

-- at just these places a call of the entry breaks no rule on the window, neither itself nor in a shape that it leads to
abbrev pub ArePlaces : Window → Rom → List Entry → Entry → CallPlaces → Type 0
ArePlaces w rom list e places = (x y : ℤ) → HasPlace places x y ↔ CallKeeps w e x y × ShapesKeepWindow w rom list e

-- the places of each of these entries, in their order
abbrev pub AreAllPlaces : Window → Rom → List Entry → List Entry → List EntryPlaces → Type 0
AreAllPlaces w rom list [] [] = Unit {0}
AreAllPlaces w rom list (e ∷ es) (p ∷ ps) =
    (p.entry ≡ e) × ArePlaces w rom list e p.places × IsNotEmpty p.places × AreAllPlaces w rom list es ps
AreAllPlaces w rom list es ps = ⊥
