-- Numbers stay small from one item to the next.
use Rattle.dvg_items.proofs.Common.{arith, Some, ◌≡◌, ◌+◌, ◌<◌, ◌≤◌, ℕ, nat_tests, word_count, InstrFits, Item, Kind, Seen, address_after, next_address}
use Rattle.dvg_words.specs.declared.map.TheConstants.{ADDRESS_END}
use Rattle.dvg_words.specs.declared.instruction.Format.{Format}
use Rattle.dvg_words.specs.declared.instruction.Instr.{Instr}
use Rattle.dvg_items.specs.Cursor.{Cursor, Step, Onward, step_past}
use Rattle.dvg_items.specs.Iterating.{address, most_left}

pub word_count-some : (format : Format) → 1 ≤ word_count format
word_count-some format = grind (arith)

pub next_further : (kind : Kind) (i : Item) (p : ℕ) → next_address kind i ≡ Some p → i.at + 1 ≤ p
next_further kind i p e = grind (arith, word_count-some, nat_tests)

pub next_near : (kind : Kind) (at : ℕ) (format : Format) (instr : Instr) (p : ℕ) → at < ADDRESS_END → InstrFits instr
    → address_after kind at format instr ≡ Some p → p ≤ ADDRESS_END + 2
next_near kind at format instr p lt h e = grind (arith)

pub fewer_left : (kind : Kind) (v : Seen) (here : Cursor) (s t : Step) → s ≡ Onward here → t ≡ step_past kind v → v.item.at ≡ here.at
    → v.item.at < ADDRESS_END → most_left (address t) + 1 ≤ most_left (address s)
fewer_left kind v here s t s_is t_is at_is lt = grind (arith, s_is, t_is, at_is, (next_further kind v.item))
