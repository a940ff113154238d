-- How many clocks what stands before a point of a recipe may take at most.
use Rattle.std.specs.Prelude.{◌≡◌, ◌≤◌, ℕ, List, ◌∷◌, Option, None, Some, get_or, unwrap_or, max}
use Rattle.dvg_words.specs.declared.machine.Machine.TheVariants.{Board}
use Rattle.dvg_words.specs.declared.instruction.Format.{Format}
use Rattle.dvg_words.specs.declared.instruction.Instr.TheVariants.{Halt, Labs}
use Rattle.dvg_words.specs.declared.instruction.Instr.{Instr}
use Rattle.dvg_cert.specs.declared.entry.Entry.{Entry}
use Rattle.dvg_cert.specs.declared.entry.Key.{Key}
use Rattle.dvg_cert.specs.declared.entry.Key.TheVariants.{At, Any}
use Rattle.dvg_items.specs.declared.item.Item.{Item}
use Rattle.dvg_items.specs.declared.item.Kind.TheVariants.{Frame}
use Rattle.dvg_items.specs.Known.{target, callee_at, scale_set, scale_before, frame_context}
use Rattle.dvg_clocks.specs.declared.clocks.States.{States}
use Rattle.dvg_clocks.specs.declared.clocks.ClockRange.{ClockRange}
use Rattle.dvg_clocks.specs.Forecasts.{plus, callee_taken, clocks_known, taken_before}
use Rattle.dvg_recipe.specs.Recipes.{Area, Recipe, Leading, SpellsList}
use Rattle.dvg_recipe.specs.Private.Judging.{Adds, BeginsAtOne}
pub use Rattle.dvg_recipe.specs.declared.most_clocks.MostClocks.{MostClocks}

-- ---- the most, by the scale

-- the most at a scale; none if no frame has that scale there
abbrev pub most_at : MostClocks → Key → Option ClockRange
most_at most (At scale) = get_or most.at scale None
most_at most Any = most.any

-- neither end of the range is past that of the most, if there is one
abbrev pub IsUnder : ClockRange → Option ClockRange → Type 0
IsUnder n None = ⊥
IsUnder n (Some most) = (n.least ≤ most.least) × (n.most ≤ most.most)

-- what is under the one at a scale is under the other there
pub record AreNoMore (lower upper : MostClocks) : Type 0 where
  pub each : (scale : Key) (n : ClockRange) → IsUnder n (most_at lower scale) → IsUnder n (most_at upper scale)

-- each end is the greater one of two
abbrev pub greater : ClockRange → ClockRange → ClockRange
greater a b = record { least = max a.least b.least; most = max a.most b.most }

-- the most with one range more
abbrev pub joined_clocks : Option ClockRange → ClockRange → ClockRange
joined_clocks None more = more
joined_clocks (Some old) more = greater old more

-- ---- items

-- a LABS that sets this scale
abbrev pub IsLabsAt : ℕ → Instr → Type 0
IsLabsAt scale (Labs x y gscale) = gscale ≡ scale
IsLabsAt scale i = ⊥

-- two items take the same, and do the same to the scale
pub record AreAlike (t : States) (i j : Item) : Type 0 where
  pub clocks : (scale : Key) → clocks_known t i.format i.instr scale ≡ clocks_known t j.format j.instr scale
  pub calls : target Frame i.instr ≡ target Frame j.instr
  pub sets : (named : Option Entry) → scale_set i.instr named ≡ scale_set j.instr named

-- draws may lead anywhere
abbrev pub Anywhere : Leading
Anywhere to items = Unit {0}

-- by this table of states, these entries, and what is said of their shapes
module _ (t : States) (list : List Entry) (by_entry : Entry → ClockRange) where
  -- the entry that an item names at a scale
  abbrev pub named_by : Item → Key → Option Entry
  named_by i scale = callee_at list (target Frame i.instr) scale

  -- the scale behind an item
  abbrev pub scale_past : Item → Key → Key
  scale_past i scale = unwrap_or (scale_set i.instr (named_by i scale)) scale

  -- what is taken behind an item
  abbrev pub taken_past : Item → Key → ClockRange → ClockRange
  taken_past i scale n = plus (plus (clocks_known t i.format i.instr scale) (callee_taken by_entry (named_by i scale))) n

  -- past each such item, what is taken is under the most there
  pub record TakeOn (P : Item → Type 0) (here next : MostClocks) : Type 0 where
    pub each :
        (i : Item) → P i → (scale : Key) (n : ClockRange) → IsUnder n (most_at here scale)
        → IsUnder (taken_past i scale n) (most_at next (scale_past i scale))

  -- what these items take is under the most behind them
  abbrev pub AreUnderMost : MostClocks → List Item → Type 0
  AreUnderMost most items =
      IsUnder (taken_before (clocks_known t) by_entry (frame_context Board list) items)
      (most_at most (scale_before (frame_context Board list) items))

  -- where the items before take no more than the most there, so do all of them
  pub record Spend (R : Adds) (here next : MostClocks) : Type 0 where
    pub each : (before after : List Item) → R Anywhere before after → AreUnderMost here before → AreUnderMost next after

  -- so do all that lead to a list
  pub record StartWith (areas : List Area) (next : MostClocks) : Type 0 where
    pub each : (items : List Item) → BeginsAtOne areas items → AreUnderMost next items

  -- so do all lists of a recipe
  pub record EndWith (recipe : Recipe) (next : MostClocks) : Type 0 where
    pub each : (items : List Item) → SpellsList Anywhere recipe items → AreUnderMost next items

  -- no list of a recipe takes more than this, with a HALT behind it
  pub record AreListsUnder (recipe : Recipe) (most : ClockRange) : Type 0 where
    pub each :
        (items : List Item) (at : ℕ) (format : Format) → SpellsList Anywhere recipe items
        → IsUnder (taken_before (clocks_known t) by_entry (frame_context Board list)
        (record { at = at; format = format; instr = Halt } ∷ items)) (Some most)
