-- The names that these proofs share, passed on from one place, the most cited first. Declares nothing.
pub use Rattle.std.proofs.Common.{◌-◌, false, ◌++◌, reverse, Option, None, sym, ⊎_elim, true, nat_lt}
pub use Rattle.std.specs.Prelude.{◌*ℤ◌, slice_set, nat_abs, ◌==◌, if◌then◌else◌, ◌&&◌, neg_ℤ, slice_get}
pub use Rattle.std.specs.List.{AllByRecursion, AllZip}
pub use Rattle.std.proofs.lemmas.Bool.{cases_lt, cases_eq}
pub use Rattle.std.proofs.lemmas.Nat.Bits.{bit_at_lowest, bit_at-suc, bit_at-trailing_ones, shr_and_one}
pub use Rattle.std.proofs.Math.Nat.{pow-succ', pow-suc, mod-eq_of_lt}
pub use Rattle.dvg_words.proofs.Common.{◌≡◌, ℕ, refl, arith, ints, zero, suc, ◌≤◌, ap, ◌∙◌, rules, [], ◌∷◌, ◌+◌, ◌%◌, ◌<◌, List, length, Some, nat_le, subst, pos, negsuc, nat_tests, Memory, State, Status, Reached, after_cell, ◌*◌, ℤ, ◌+ℤ◌, DrawFields, axis_move, effective_scale, ◌/◌, Bool, ◌^◌, Window, InWindow}
unfoldable pub use Rattle.dvg_words.proofs.Common.{instruction_of, cell_at, next_status, displacement}
pub use Rattle.dvg_circuit.specs.Counters.{IsShown, bit, Counters, counts, counters_after, ending_ones, let_through, pulse, pulses, stepped, passed}
pub use Rattle.dvg_circuit.specs.Circuit.{Run, step, run_after, begin, LitDraw, Reads, past, places, decoded, performed, act}
pub use Rattle.dvg_circuit.specs.Laws.{signed, moved, twelve_bits, IsBetween, CounterIsPlace, RoundedHalfUp}
pub use Rattle.dvg_circuit.specs.Following.{IsSamePlace, IsDrawnAs, AreStored, Agrees, AgreesWith, CircuitFollows, IsAmong, DrawnOnStroke}
pub use Rattle.dvg_words.specs.Generator.{Stroke, Running, Halted, Fault, places as generator_places, fetches, after_instruction, start}
pub use Rattle.dvg_words.specs.Decoding.{word_count, format_of, cell_holding, long_cell, cell_of_words, opcode, labs_of}
pub use Rattle.dvg_words.specs.Memory.{IsMemory, fetched_at}
pub use Rattle.dvg_circuit.specs.Premises.{IsRead, ReadsNow, ReadsAs}
pub use Rattle.dvg_words.specs.declared.machine.Machine.TheVariants.{Board}
pub use Rattle.dvg_words.specs.Values.{IsWindow, IsWindowOrZone, clipped}
pub use Rattle.dvg_words.specs.declared.instruction.Format.TheVariants.{Short, Long}
pub use Rattle.dvg_words.specs.Beam.{signed_field, shift, screen}
pub use Rattle.dvg_words.specs.declared.instruction.Format.{Format}
pub use Rattle.dvg_words.specs.declared.instruction.Instr.{Instr}
pub use Rattle.dvg_words.specs.declared.beam.Point.{Point}
