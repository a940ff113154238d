-- What an entry's shape lights at absolute places, up to where another entry's shape goes on.
use Rattle.std.specs.Prelude.{◌≡◌, ◌<◌, ◌≤◌, ◌⊎◌, ◌++◌, ℕ, List, Contains, Option, None, Some}
use Rattle.dvg_words.specs.Memory.{Rom, rom_word}
use Rattle.dvg_words.specs.declared.beam.Point.{Point}
use Rattle.dvg_cert.specs.Entry.{IsKey}
use Rattle.dvg_cert.specs.declared.entry.End.{End}
use Rattle.dvg_cert.specs.declared.entry.End.TheVariants.{Rel, Abs, Lost}
use Rattle.dvg_cert.specs.declared.entry.Entry.{Entry}
use Rattle.dvg_cert.specs.declared.entry.LitBox.{LitBox}
use Rattle.dvg_items.specs.declared.item.Item.{Item}
use Rattle.dvg_items.specs.declared.item.Kind.TheVariants.{Shape}
use Rattle.dvg_items.specs.Items.{LeadsTo}
use Rattle.dvg_items.specs.Bounds.{IsFewWords, IsNearPlace}
use Rattle.dvg_items.specs.Known.{place_before, scale_before, shape_context}
use Rattle.dvg_items.specs.declared.known.Known.{Known}
use Rattle.dvg_items.specs.declared.known.Effect.{Effect}
use Rattle.dvg_items.specs.declared.known.Effect.TheVariants.{Sets}
use Rattle.dvg_items.specs.Least.{IsLeast, absolute_points}
use Rattle.dvg_items.specs.Lit.{absolute_corners}
use Rattle.dvg_items.specs.declared.seen.Seen.{Seen}
use Rattle.dvg_survey.specs.Calls.{AreAll}

-- the place is not an absolute one
abbrev pub IsNotAbsolute : End → Type 0
IsNotAbsolute (Rel x y) = Unit {0}
IsNotAbsolute (Abs x y) = ⊥
IsNotAbsolute Lost = Unit {0}

-- these items of an entry's shape lead to where another entry's shape begins, at its scale and at no absolute place
pub record GoesOn (rom : Rom) (list : List Entry) (e : Entry) (items : List Item) (other : Entry) : Type 0 where
  pub listed : Contains list other
  pub leads : LeadsTo Shape (rom_word rom) e.addr items other.addr
  pub further : e.addr < other.addr
  pub scale : scale_before (shape_context rom.machine list e) items ≡ other.key
  pub place : IsNotAbsolute (place_before (shape_context rom.machine list e) items)

-- the box is the least one of what an entry's shape lights at absolute places, up to its end or to where another entry's shape goes on
pub record IsOwnExtent (rom : Rom) (list : List Entry) (e : Entry) (box : LitBox) : Type 0 where
  pub items : List Item
  pub least : IsLeast (absolute_points (shape_context rom.machine list e) items) box
  pub end : AreAll Shape (rom_word rom) e.addr items ⊎ ((other : Entry) × GoesOn rom list e items other)

-- ---- what is known, as far as what is lit at absolute places goes by it

-- both are the same absolute place, or neither is absolute
abbrev pub ArePlacesAlike : End → End → Type 0
ArePlacesAlike (Abs x y) (Abs u v) = (x ≡ u) × (y ≡ v)
ArePlacesAlike (Abs x y) (Rel u v) = ⊥
ArePlacesAlike (Abs x y) Lost = ⊥
ArePlacesAlike (Rel x y) place = IsNotAbsolute place
ArePlacesAlike Lost place = IsNotAbsolute place

-- the absolute place that an effect sets; none if it sets none
abbrev pub IsPlaceSet : Effect → Option End → Type 0
IsPlaceSet (Sets p) place = place ≡ Some (Abs p.x p.y)
IsPlaceSet effect place = place ≡ None

-- the scale is the same, and the place is alike
pub record IsAlike (known other : Known) : Type 0 where
  pub scale : known.scale ≡ other.scale
  pub place : ArePlacesAlike known.place other.place

-- past an item that is seen so, what is known is alike, and the box is the least one with what it lights
pub record IsPassed (seen : Seen) (old new : LitBox) (after : Known) : Type 0 where
  pub alike : IsAlike seen.after after
  pub lit : (ps : List Point) → IsLeast ps old → IsLeast (absolute_corners seen.extent seen.place ++ ps) new

-- its numbers are within the limits at this word address
pub record IsSoundKnown (at : ℕ) (known : Known) : Type 0 where
  pub place : IsNearPlace at known.place
  pub scale : IsKey known.scale
  pub words : IsFewWords at known.words
  pub depth : known.depth ≤ 4
