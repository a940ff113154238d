-- What is known beforehand of what items take: a least and a most. All of it is this project's own.
use Rattle.std.specs.Prelude.{List, None, Option, Some, [], ℕ, ◌+◌, ◌∷◌}
use Rattle.dvg_words.specs.Decoding.{word_count}
use Rattle.dvg_words.specs.declared.instruction.Format.{Format}
use Rattle.dvg_words.specs.declared.instruction.Instr.{Instr}
use Rattle.dvg_words.specs.declared.instruction.Instr.TheVariants.{Draw as Draws}
use Rattle.dvg_cert.specs.declared.entry.Entry.{Entry}
use Rattle.dvg_cert.specs.declared.entry.Key.{Key}
use Rattle.dvg_cert.specs.declared.entry.Key.TheVariants.{Any, At}
use Rattle.dvg_items.specs.Known.{Context, callee, scale_before}
use Rattle.dvg_items.specs.declared.item.Item.{Item}
use Rattle.dvg_clocks.specs.Clocks.{counts_of, states_of}
use Rattle.dvg_clocks.specs.declared.clocks.ClockRange.{ClockRange}
use Rattle.dvg_clocks.specs.declared.clocks.States.{States}

-- just this number
abbrev pub just : ℕ → ClockRange
just n = record { least = n; most = n }

-- the range of the sum of a number in each of two ranges
abbrev pub plus : ClockRange → ClockRange → ClockRange
plus r q = record { least = r.least + q.least; most = r.most + q.most }

-- what an instruction may take, by its format and the known scale before it
abbrev pub Forecast : Type 0
Forecast = Format → Instr → Key → ClockRange

-- the clocks of a draw's counts: at unknown scale none up to all 1,024, else just those at the known scale
abbrev pub counts_known : Instr → Key → ClockRange
counts_known (Draws d) Any = record { least = 0; most = 1024 }
counts_known i Any = just 0
counts_known i (At scale) = just (counts_of i scale)

-- the clocks of an instruction at a known scale
abbrev pub clocks_known : States → Forecast
clocks_known t format i key = plus (just (states_of t format i)) (counts_known i key)

-- the words of an instruction, by which the words of a shape or of a frame are such a sum, too
abbrev pub words_known : Forecast
words_known format i key = just (word_count format)

-- what the called entry takes; nothing without an entry
abbrev pub callee_taken : (Entry → ClockRange) → Option Entry → ClockRange
callee_taken by_entry None = just 0
callee_taken by_entry (Some e) = by_entry e

-- what an item after these items takes, with the entry that it calls
abbrev pub item_taken : Forecast → (Entry → ClockRange) → Context → List Item → Item → ClockRange
item_taken forecast by_entry c earlier i =
    plus (forecast i.format i.instr (scale_before c earlier)) (callee_taken by_entry (callee c earlier i.instr))

-- what these items take, the latest first, with the entries that they call; `by_entry` says what an entry takes
abbrev pub taken_before : Forecast → (Entry → ClockRange) → Context → List Item → ClockRange
taken_before forecast by_entry c [] = just 0
taken_before forecast by_entry c (i ∷ earlier) = plus (item_taken forecast by_entry c earlier i) (taken_before forecast by_entry c earlier)
