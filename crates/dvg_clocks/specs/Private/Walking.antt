-- What the code keeps while it goes over items.
use Rattle.std.specs.Option.{option_map}
use Rattle.std.specs.Prelude.{List, None, Option, unwrap_or, ℕ, ◌*◌, ◌<◌, ◌∷◌, ◌≡◌, ◌≤◌}
use Rattle.dvg_words.specs.Decoding.{cell_at}
use Rattle.dvg_words.specs.Values.{Source}
use Rattle.dvg_words.specs.declared.instruction.Cell.TheVariants.{Holds}
use Rattle.dvg_words.specs.declared.instruction.Format.{Format}
use Rattle.dvg_words.specs.declared.instruction.Instr.{Instr}
use Rattle.dvg_cert.specs.declared.entry.Entry.{Entry}
use Rattle.dvg_cert.specs.declared.limits.TheConstants.{MOST_WORDS}
use Rattle.dvg_items.specs.Items.{LeadsTo, next_address}
use Rattle.dvg_items.specs.Known.{Context, scale_set, words_before}
use Rattle.dvg_items.specs.declared.item.Item.{Item}
use Rattle.dvg_items.specs.declared.item.Kind.{Kind}
use Rattle.dvg_clocks.specs.Forecasts.{clocks_known, taken_before}
use Rattle.dvg_clocks.specs.Kept.{Kept, WORD_CLOCKS, clocks_in}
use Rattle.dvg_clocks.specs.declared.clocks.ClockRange.{ClockRange}
use Rattle.dvg_clocks.specs.declared.clocks.States.{States}
pub use Rattle.dvg_clocks.specs.declared.items.ScaleCursor.{ScaleCursor}

-- ---- going over items

-- the context of the items from the first one on
abbrev pub context_at : Source → List Entry → ScaleCursor → Context
context_at source list first = record { kind = first.kind; machine = source.machine; list = list; scale = first.scale }

-- at the next item, past one that calls this entry
abbrev pub cursor_past : ScaleCursor → Item → Option Entry → Option ScaleCursor
cursor_past here i named =
    option_map (λ at. record { kind = here.kind; at = at; scale = unwrap_or (scale_set i.instr named) here.scale })
    (next_address here.kind i)

-- each place that items lead to has an item, up to which the words are few
pub record AreFew (c : Context) (source : Source) (first most : ℕ) : Type 0 where
  pub there :
      (earlier : List Item) (p : ℕ) → LeadsTo c.kind source first earlier p
      → (format : Format) × (i : Instr) × (cell_at source p ≡ Holds format i)
  pub few :
      (earlier : List Item) (i : Item) → LeadsTo c.kind source first earlier i.at
      → cell_at source i.at ≡ Holds i.format i.instr → words_before c (i ∷ earlier) ≤ most

-- items can be gone over from the first one on
pub record IsWalkable (source : Source) (list : List Entry) (first : ScaleCursor) : Type 0 where
  pub most : ℕ
  pub within : most ≤ MOST_WORDS
  pub few : AreFew (context_at source list first) source first.at most

-- a walk to a last item
pub record IsWhole (kind : Kind) (source : Source) (first : ℕ) (items : List Item) (i : Item) : Type 0 where
  pub lead : LeadsTo kind source first items i.at
  pub is : cell_at source i.at ≡ Holds i.format i.instr
  pub last : next_address kind i ≡ None

-- the items from the first one on, up to and with the last one, take so much by what is kept, which is within the limit
pub record IsTaken
    (t : States) (source : Source) (list : List Entry) (kept : Kept) (first : ScaleCursor) (limit : ℕ) (sum : ClockRange) : Type 0 where
  pub items : List Item
  pub item : Item
  pub whole : IsWhole first.kind source first.at items item
  pub sum_is : sum ≡ taken_before (clocks_known t) (clocks_in kept) (context_at source list first) (item ∷ items)
  pub ordered : sum.least ≤ sum.most
  pub few : sum.most ≤ WORD_CLOCKS * words_before (context_at source list first) (item ∷ items)
  pub within : sum.most ≤ limit

-- the first item from the first one on with which they may take more than the limit, by what is kept
pub record IsOver (t : States) (source : Source) (list : List Entry) (kept : Kept) (first : ScaleCursor) (limit at : ℕ) : Type 0 where
  pub items : List Item
  pub item : Item
  pub at_is : at ≡ item.at
  pub lead : LeadsTo first.kind source first.at items item.at
  pub is : cell_at source item.at ≡ Holds item.format item.instr
  pub before : (taken_before (clocks_known t) (clocks_in kept) (context_at source list first) items).most ≤ limit
  pub over : limit < (taken_before (clocks_known t) (clocks_in kept) (context_at source list first) (item ∷ items)).most
  pub words : words_before (context_at source list first) (item ∷ items) ≤ MOST_WORDS
  pub few : (taken_before (clocks_known t) (clocks_in kept) (context_at source list first) (item ∷ items)).most ≤ WORD_CLOCKS * MOST_WORDS
