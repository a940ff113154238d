-- Tails: the part of a shape from a word on, as the entry that claims exactly what it does. No rule stands here.
use Rattle.dvg_words.specs.declared.machine.Machine.{Machine}
use Rattle.std.specs.Prelude.{◌≡◌, ◌≢◌, ◌+◌, ◌-◌, ◌≤◌, max, ℕ, List, Option, Some}
use Rattle.dvg_words.specs.Values.{Window}
use Rattle.dvg_words.specs.declared.map.TheConstants.{ADDRESS_END}
use Rattle.dvg_words.specs.Memory.{Rom, rom_word}
use Rattle.dvg_words.specs.Beam.{InWindow}
use Rattle.dvg_words.specs.declared.instruction.Instr.TheVariants.{Halt}
use Rattle.dvg_words.specs.declared.instruction.Cell.TheVariants.{Holds}
use Rattle.dvg_words.specs.Decoding.{cell_at}
use Rattle.dvg_cert.specs.Entry.{IsKey}
use Rattle.dvg_cert.specs.declared.entry.Key.{Key}
use Rattle.dvg_cert.specs.declared.entry.End.{End}
use Rattle.dvg_cert.specs.declared.entry.End.TheVariants.{Rel, Abs, Lost}
use Rattle.dvg_cert.specs.declared.entry.LitBox.{LitBox}
use Rattle.dvg_cert.specs.declared.entry.LitBox.TheVariants.{Empty, Span}
use Rattle.dvg_cert.specs.declared.entry.Entry.{Entry}
use Rattle.dvg_items.specs.declared.item.Kind.TheVariants.{Shape}
use Rattle.dvg_items.specs.declared.item.Item.{Item}
use Rattle.dvg_items.specs.declared.known.Known.{Known}
use Rattle.dvg_items.specs.Items.{next_address}
use Rattle.dvg_items.specs.Known.{place_past, stop_effect, start, target}
use Rattle.dvg_items.specs.Lit.{ScaleKnown, LitInBox, IsInside}
use Rattle.dvg_items.specs.Seen.{HasCallee}
use Rattle.dvg_items.specs.Bounds.{IsFewWords, IsNearBox, IsNearPlace}
use Rattle.dvg_check.specs.Rules.{Mode, Seen, GoodShape}
use Rattle.dvg_check.specs.Behaving.{Counts}
use Rattle.dvg_check.specs.Passing.{AllKept, Kept, moved}
use Rattle.dvg_check.specs.Private.Judging.{seen_by}
pub use Rattle.dvg_check.specs.declared.tail.Tail.{Tail}

-- ---- what is claimed

-- `e` claims no more of a shape than `strong`: its box holds the box of `strong`, and its counts are no smaller. In the mode
-- Exact its counts are the same
pub record ClaimsLess (mode : Mode) (e strong : Entry) : Type 0 where
  pub addr : e.addr ≡ strong.addr
  pub key : e.key ≡ strong.key
  pub stop : e.stop ≡ strong.stop
  pub lit : IsInside strong.lit e.lit
  pub depth : Counts mode strong.depth e.depth
  pub words : Counts mode strong.words e.words
  pub scale : e.scale ≡ strong.scale

-- what an entry claims of its end, as what is known there
abbrev pub known_at_end : Entry → Known
known_at_end e = record { place = e.stop; scale = e.scale; words = e.words; depth = e.depth }

-- the entry that claims this end
abbrev pub claimed : ℕ → Key → LitBox → Known → Entry
claimed addr key lit end =
    record { addr = addr; key = key; stop = end.place; lit = lit; depth = end.depth; words = end.words; scale = end.scale }

-- what is known at the end of a tail
abbrev pub end_of : Tail → Known
end_of t = record { place = t.stop; scale = t.scale; words = t.words; depth = t.depth }

-- the tail at this address and key, as the entry that claims it
abbrev pub entry_of : ℕ → Key → Tail → Entry
entry_of addr key t = claimed addr key t.lit (end_of t)

-- ---- an item and what stands behind it

-- the place past a tail that starts at this place and has this end: the same as past a call
abbrev pub place_over : End → End → End
place_over place stop = place_past (stop_effect stop) place

-- what is known past an item and the tail behind it: `first` past the item, `second` at the end of a shape that starts there
abbrev pub known_over : Known → Known → Known
known_over first second =
    record {
      place = place_over first.place second.place;
      scale = second.scale;
      words = second.words + first.words;
      depth = max second.depth first.depth;
    }

-- the first item of a shape at this key, as the rules see it
abbrev pub first_seen : Machine → List Entry → Key → Item → Seen
first_seen machine list key i = seen_by machine list Shape (start Shape key) i

-- both corners of the box are in the window
abbrev pub BoxInWindow : Window → LitBox → Type 0
BoxInWindow w Empty = Unit {0}
BoxInWindow w (Span x_min x_max y_min y_max) =
    InWindow w (record { x = x_min; y = y_min }) × InWindow w (record { x = x_max; y = y_max })

-- a tail with this box may be lit from this place: at a relative place inside the whole box, at an absolute one in the window
abbrev pub MayStandAt : Window → LitBox → LitBox → End → Type 0
MayStandAt w whole Empty place = Unit {0}
MayStandAt w whole (Span l r b t) (Rel x y) = IsInside (moved (Span l r b t) (record { x = x; y = y })) whole
MayStandAt w whole (Span l r b t) (Abs x y) = BoxInWindow w (moved (Span l r b t) (record { x = x; y = y }))
MayStandAt w whole (Span l r b t) Lost = ⊥

-- the item stands in a ROM, is no HALT, lights nothing at unknown scale and only what lies in the box, and calls no entry
-- that is missing
pub record MayStandFirst (rom : Rom) (list : List Entry) (key : Key) (box : LitBox) (i : Item) : Type 0 where
  pub there : cell_at (rom_word rom) i.at ≡ Holds i.format i.instr
  pub goes_on : i.instr ≢ Halt
  pub scale_known : ScaleKnown (first_seen rom.machine list key i).extent
  pub named : HasCallee (target Shape i.instr) (first_seen rom.machine list key i).callee
  pub boxed : LitInBox box (first_seen rom.machine list key i).extent (first_seen rom.machine list key i).place

-- the tail stands behind the item, has the scale that the item leaves as its key, and may be lit from there
pub record IsBehind (w : Window) (machine : Machine) (list : List Entry) (key : Key) (box : LitBox) (i : Item) (tail : Entry) : Type 0 where
  pub next : next_address Shape i ≡ Some tail.addr
  pub scale : tail.key ≡ (first_seen machine list key i).after.scale
  pub lit : MayStandAt w box tail.lit (first_seen machine list key i).after.place

-- the entry of a last item alone
abbrev pub last_item : Machine → List Entry → Key → LitBox → Item → Entry
last_item machine list key box i = claimed i.at key box (first_seen machine list key i).after

-- the entry of an item and the tail behind it
abbrev pub after_item : Machine → List Entry → Key → LitBox → Item → Entry → Entry
after_item machine list key box i tail = claimed i.at key box (known_over (first_seen machine list key i).after (known_at_end tail))

-- ---- tails, and how large their numbers are

-- the numbers of a tail are within the limits for n items
pub record IsSmall (n : ℕ) (t : Tail) : Type 0 where
  pub stop : IsNearPlace n t.stop
  pub scale : IsKey t.scale
  pub words : IsFewWords n t.words
  pub depth : t.depth ≤ 4
  pub lit : IsNearBox n t.lit

-- the tail is good in each mode, and its numbers are within the limits for the items that may stand from its address on
pub record IsTail (w : Window) (rom : Rom) (list : List Entry) (addr : ℕ) (key : Key) (t : Tail) : Type 0 where
  pub good : (mode : Mode) → GoodShape mode w rom list (entry_of addr key t)
  pub small : IsSmall (ADDRESS_END + 2 - addr) t

-- each of these slots is empty or holds a tail
abbrev pub AreTails : Window → Rom → List Entry → List (Option (Kept Tail)) → Type 0
AreTails w rom list slots = AllKept (IsTail w rom list) slots
