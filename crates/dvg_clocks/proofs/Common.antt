-- The names that these proofs share, passed on from one place, the most cited first. Declares nothing.
pub use Rattle.std.specs.Prelude.{Bool}
pub use Rattle.dvg_check.proofs.Common.{◌≡◌, ℕ, ◌+◌, ◌*◌, ◌^◌, ◌≤◌, ◌<◌, List, [], ◌∷◌, ◌++◌, length, Option, Some, None, refl, sym, ◌∙◌, ap, subst, arith, ints, inl, inr, ◌⊎◌, ⊎_elim, ◌≢◌, zero, suc, max, nat_lt, nat_le, nat_tests, cases_lt, if◌then◌else◌, true, Contains, rules}
pub use Rattle.dvg_check.proofs.Common.{Memory, State, Status, Running, Halted, Fault, Reached, Step, Machine, Board, Cell, Holds, Format, Short, Long, Instr, Draws, Labs, Halt, Jsrl, Rtsl, Jmpl, Point, Stroke, IsMemory, word_at, Rom, rom_word, frame_word, places, start, after_instruction, after_cell, state_of, word_count, origin, shift, format_of, effective_scale, fetches}
pub use Rattle.dvg_check.proofs.Common.{Entry, Key, At, Any, End, Item, Kind, Shape, Frame, LeadsTo, next_address, address_after, Context, shape_context, frame_context, target, callee, scale_before, place_before, depth_before, words_before, depth_under, place_past, place_moved_by, HasCallee, IsDrawOrLabs, Past, word_of, shift_origin, named_listed, listed_at, word_count-some, callee_words}
pub use Rattle.dvg_check.proofs.Common.{Window, Good, GoodShape, GoodFrame, AllKeep, FramePlaceKeeps, FrameKeeps, CellKeeps, ShapeKeeps, PlaceFits, ScaleFits, seen_at, AtLast, AsClaimed, length-append}
unfoldable pub use Rattle.dvg_check.proofs.Common.{cell_at, next_status, instruction_of}
pub use Rattle.dvg_check.proofs.Onward.{Stands}
pub use Rattle.dvg_check.specs.declared.fault.Mode.{Mode}
pub use Rattle.dvg_check.specs.declared.fault.ShapeWhy.{ShapeWhy}
pub use Rattle.dvg_check.specs.declared.fault.FrameWhy.{FrameWhy}
pub use Rattle.dvg_clocks.specs.declared.clocks.States.{States}
pub use Rattle.dvg_clocks.specs.declared.clocks.ClockRange.{ClockRange}
pub use Rattle.dvg_clocks.specs.Clocks.{Measure, IsInRange, clocks_of_instr, words_of_instr, states_of, counts_of, taken_next, taken_after, TakenOnCircuit, RunTakes}
pub use Rattle.dvg_clocks.specs.Forecasts.{Forecast, just, plus, callee_taken, item_taken, taken_before, clocks_known, words_known, counts_known}
pub use Rattle.dvg_clocks.specs.Laws.{WordsAreTaken, IsTight, TightForecast, ClocksOnCircuit}
pub use Rattle.dvg_clocks.specs.Sums.{item_in, items_on, items_past, items_from, sum_to, frame_sum, AreGood, IsAcceptedFrame, IsFirstOver}
pub use Rattle.dvg_clocks.specs.Kept.{WORD_CLOCKS}
unfoldable pub use Rattle.dvg_clocks.specs.Sums.{sum_of}
pub use Rattle.dvg_clocks.specs.Private.Taking.{taken_at, taken_by, Took, TookBack, Takes, IsRight, ForecastsAreRight, AllTake, CircuitTakes, frame_taken}
pub use Rattle.dvg_clocks.specs.Sums.{IsSumOfItems}
pub use Rattle.dvg_clocks.specs.Private.Walking.{ScaleCursor, context_at, cursor_past, AreFew, IsWalkable, IsWhole, IsTaken, IsOver}
pub use Rattle.dvg_clocks.specs.Kept.{Kept, found_at, clocks_in, IsKeptToo, IsFewFor, AreAllFew, IsToldOf, AreTold}
