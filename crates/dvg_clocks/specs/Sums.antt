-- What entries and frames take, as sums over their items. All of it is this project's own.
use Rattle.std.specs.Prelude.{Contains, List, None, Option, Some, [], suc, zero, ℕ, ◌<◌, ◌∷◌, ◌≡◌, ◌≤◌}
use Rattle.dvg_words.specs.Decoding.{cell_at}
use Rattle.dvg_words.specs.Memory.{Memory, Rom, frame_word, rom_word}
use Rattle.dvg_words.specs.Values.{Source, Window}
use Rattle.dvg_words.specs.declared.instruction.Cell.{Cell}
use Rattle.dvg_words.specs.declared.instruction.Cell.TheVariants.{Holds}
use Rattle.dvg_cert.specs.declared.entry.Entry.{Entry}
use Rattle.dvg_cert.specs.declared.limits.TheConstants.{MOST_WORDS}
use Rattle.dvg_items.specs.Items.{LeadsTo, next_address}
use Rattle.dvg_items.specs.Known.{frame_context, shape_context}
use Rattle.dvg_items.specs.declared.item.Item.{Item}
use Rattle.dvg_items.specs.declared.item.Kind.{Kind}
use Rattle.dvg_items.specs.declared.item.Kind.TheVariants.{Frame, Shape}
use Rattle.dvg_check.specs.Rules.{Good, GoodFrame}
use Rattle.dvg_check.specs.declared.fault.Mode.{Mode}
use Rattle.dvg_clocks.specs.Forecasts.{Forecast, clocks_known, just, taken_before}
use Rattle.dvg_clocks.specs.declared.clocks.ClockRange.{ClockRange}
use Rattle.dvg_clocks.specs.declared.clocks.States.{States}

-- the item of a cell at a word address, if there is one
abbrev pub item_in : ℕ → Cell → Option Item
item_in at (Holds format i) = Some (record { at = at; format = format; instr = i })
item_in at cell = None

-- on from the next word address, if there is one
abbrev pub items_on : (List Item → ℕ → List Item) → List Item → Option ℕ → List Item
items_on go items None = items
items_on go items (Some at) = go items at

-- one item more, if there is one, and on past it
abbrev pub items_past : Kind → (List Item → ℕ → List Item) → List Item → Option Item → List Item
items_past kind go earlier None = earlier
items_past kind go earlier (Some i) = items_on go (i ∷ earlier) (next_address kind i)

-- up to n items more, the latest first: from this word address on, after those before it, up to the last one
abbrev pub items_from : Kind → Source → ℕ → List Item → ℕ → List Item
items_from kind source zero earlier at = earlier
items_from kind source (suc n) earlier at = items_past kind (items_from kind source n) earlier (item_in at (cell_at source at))

-- what an entry's shape takes, where calls nest at most n deep, tail jumps included; a shape has no more items than its entry has words
abbrev pub sum_to : Forecast → Rom → List Entry → ℕ → Entry → ClockRange
sum_to forecast rom list zero e = just 0
sum_to forecast rom list (suc n) e =
    taken_before forecast (sum_to forecast rom list n) (shape_context rom.machine list e)
    (items_from Shape (rom_word rom) e.words [] e.addr)

-- what an entry's shape takes: each entry that it calls has fewer words
unfoldable pub sum_of : Forecast → Rom → List Entry → Entry → ClockRange
sum_of forecast rom list e = sum_to forecast rom list (suc e.words) e

-- what a frame takes; it has no more items than words
abbrev pub frame_sum : Forecast → Memory → List Entry → ℕ → ClockRange
frame_sum forecast m list words =
    taken_before forecast (sum_of forecast m.rom list) (frame_context m.rom.machine list)
    (items_from Frame (frame_word m.rom.machine m.frame) words [] 0)

-- what is said of each entry is what all items of its shape take, up to the last one
abbrev pub IsSumOfItems : Forecast → Rom → List Entry → (Entry → ClockRange) → Type 0
IsSumOfItems forecast rom list by_entry =
    (e : Entry) → Contains list e → (earlier : List Item) (i : Item)
    → LeadsTo Shape (rom_word rom) e.addr earlier i.at → cell_at (rom_word rom) i.at ≡ Holds i.format i.instr → next_address Shape i ≡ None
    → by_entry e ≡ taken_before forecast by_entry (shape_context rom.machine list e) (i ∷ earlier)

-- ---- what they are sums of

-- the shapes are good in some mode and window
pub record AreGood (rom : Rom) (list : List Entry) : Type 0 where
  pub mode : Mode
  pub window : Window
  pub good : Good mode window rom list

-- the frame keeps all rules in some window and within some budget of words, and has so many
pub record IsAcceptedFrame (m : Memory) (list : List Entry) (words : ℕ) : Type 0 where
  pub window : Window
  pub budget : ℕ
  pub depth : ℕ
  pub few : budget ≤ MOST_WORDS
  pub good : GoodFrame window m.rom.machine m.frame list budget words depth

-- the frame's first item with which it may take more clocks than the limit stands at this word address
pub record IsFirstOver (t : States) (m : Memory) (list : List Entry) (limit at : ℕ) : Type 0 where
  pub items : List Item
  pub item : Item
  pub at_is : at ≡ item.at
  pub leads : LeadsTo Frame (frame_word m.rom.machine m.frame) 0 items item.at
  pub stands : cell_at (frame_word m.rom.machine m.frame) item.at ≡ Holds item.format item.instr
  pub before : (taken_before (clocks_known t) (sum_of (clocks_known t) m.rom list) (frame_context m.rom.machine list) items).most ≤ limit
  pub over :
      limit < (taken_before (clocks_known t) (sum_of (clocks_known t) m.rom list) (frame_context m.rom.machine list) (item ∷ items)).most
