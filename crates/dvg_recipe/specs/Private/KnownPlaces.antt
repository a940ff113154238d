-- What is known behind the items of one frame.
use Rattle.std.specs.Prelude.{ℕ, ◌<◌, ◌≤◌, List, Contains, length, get_or, take, reverse}
use Rattle.dvg_words.specs.declared.map.TheConstants.{ADDRESS_END}
use Rattle.dvg_words.specs.Decoding.{InstrFits}
use Rattle.dvg_words.specs.Memory.{Rom}
use Rattle.dvg_items.specs.declared.item.Item.{Item}
use Rattle.dvg_items.specs.declared.known.Known.{Known}
use Rattle.dvg_recipe.specs.Members.{ComesTo}

-- the items of a frame, over a ROM
pub record ItemsOver : Type 0 where
  pub rom : Rom
  pub items : List Item

-- there are no more items than word addresses, and their fields fit their bits
pub record AreFramesItems (items : List Item) : Type 0 where
  pub few : length items ≤ ADDRESS_END
  pub fits : (i : Item) → Contains items i → InstrFits i.instr

-- the first of these is known before all items, the next behind the first item, and so on, as far as they go
pub record AreKnownTo (rom : Rom) (items : List Item) (known : List Known) : Type 0 where
  pub each : (i : ℕ) (d : Known) → i < length known → ComesTo rom (reverse (take i items)) (get_or known i d)
