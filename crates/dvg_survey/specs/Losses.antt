-- The items by which the known place and the known scale were lost. All of it is this project's own.
use Rattle.dvg_words.specs.Values.{Source}
use Rattle.std.specs.Prelude.{◌≡◌, ℕ, List, [], ◌∷◌, Option, Some, None}
use Rattle.dvg_cert.specs.declared.entry.End.{End}
use Rattle.dvg_cert.specs.declared.entry.End.TheVariants.{Lost}
use Rattle.dvg_cert.specs.declared.entry.Key.{Key}
use Rattle.dvg_cert.specs.declared.entry.Key.TheVariants.{Any}
use Rattle.dvg_items.specs.declared.item.Item.{Item}
use Rattle.dvg_items.specs.declared.item.Kind.{Kind}
use Rattle.dvg_items.specs.Items.{LeadsTo}
use Rattle.dvg_items.specs.Known.{Context, place_before, scale_before}
pub use Rattle.dvg_survey.specs.declared.losses.Losses.{Losses}

-- the item by which the place past an item was lost: `by`, if it was lost before the item already, else this one; none where it is
-- not lost (profile)
abbrev pub place_loss : Item → End → End → Option Item → Option Item
place_loss i Lost Lost by = by
place_loss i before Lost by = Some i
place_loss i before after by = None

-- the item by which the scale past an item was lost, likewise (profile)
abbrev pub scale_loss : Item → Key → Key → Option Item → Option Item
scale_loss i Any Any by = by
scale_loss i before Any by = Some i
scale_loss i before after by = None

-- the one of these items, the latest first, by which the place after them was lost (profile)
abbrev pub place_lost_by : Context → List Item → Option Item
place_lost_by c [] = None
place_lost_by c (i ∷ earlier) = place_loss i (place_before c earlier) (place_before c (i ∷ earlier)) (place_lost_by c earlier)

-- the one by which the scale after them was lost (profile)
abbrev pub scale_lost_by : Context → List Item → Option Item
scale_lost_by c [] = None
scale_lost_by c (i ∷ earlier) = scale_loss i (scale_before c earlier) (scale_before c (i ∷ earlier)) (scale_lost_by c earlier)

-- no items lead from the first word address to this one (profile)
abbrev pub NoneLead : Kind → Source → ℕ → ℕ → Type 0
NoneLead kind word first at = (items : List Item) → LeadsTo kind word first items at → ⊥

-- these are the losses of the items that lead to a word address (profile)
pub record AreLosses (c : Context) (word : Source) (first at : ℕ) (l : Losses) : Type 0 where
  pub items : List Item
  pub leads : LeadsTo c.kind word first items at
  pub place : l.place ≡ place_lost_by c items
  pub scale : l.scale ≡ scale_lost_by c items
