-- The names that these proofs share, passed on from one place, the most cited first. Declares nothing.
pub use Rattle.std.proofs.Common.{◌≢◌, unwrap_or, max, length-append, slice_index_or, append_assoc, replicate, w16}
pub use Rattle.std.specs.Prelude.{Err, Ok, Result, IfOk}
pub use Rattle.std.proofs.lemmas.List.{get_or-replicate, get_or_past, length-reverse, get_or-set_same, length-replicate}
pub use Rattle.dvg_items.proofs.Common.{List, subst, ◌≡◌, ℕ, IsSomeCertificate, arith, ap, refl, Bool, true, Option, None, Some, ◌+◌, ◌≤◌, if◌then◌else◌, nat_tests, zero, sym, suc, false, length, ◌∷◌, ◌++◌, [], shift, ◌∙◌, rules, ⊎_elim, AllByRecursion, Contains, ints, common_steps, IsNear, ◌<◌, word_count, LeadsTo, next_address, ◌==◌, origin, place_past, address_after, IsSoundCursor, place_moved_by, entry_at, IsClaim, IsNearPlace, IfSome, ◌≤ℤ◌, w64, to_z-of_z, SFits}
pub use Rattle.dvg_circuit.proofs.Common.{Window, IsWindowOrZone, nat_le, pos, ◌%◌, format_of, cell_holding, cell_of_words, Memory, negsuc, ◌/◌, labs_of, nat_lt, DrawFields, Stroke, State, Status, Running, Halted, Fault, Reached, after_instruction, after_cell, effective_scale, cases_lt, InWindow, IsMemory, start, reverse, AllZip, Reads, Run, act, run_after, begin, ReadsAs, IsSamePlace, IsDrawnAs, Agrees, AgreesWith, counters_after, screen, IsWindow, ReadsNow, ℤ, ◌+ℤ◌, ◌*◌, axis_move, fetches, ◌-◌, ◌^◌}
pub use Rattle.dvg_cert.proofs.Common.{inl, inr, ◌⊎◌, IsCertificate, take, get_or, drop, get_or_default}
pub use Rattle.dvg_words.proofs.Common.{IsFrame, IsRom, word_at, after_fetch, ◌*ℤ◌, neg_ℤ, slice_get, rom_on, IsRomLength}
unfoldable pub use Rattle.dvg_circuit.proofs.Common.{instruction_of, displacement, next_status}
unfoldable pub use Rattle.dvg_items.proofs.Common.{cell_at}
pub use Rattle.dvg_check.specs.Rules.{Good, GoodFrame, Mode, Exact, AtLast, AsClaimed, CellKeeps, PlaceKeeps, FrameKeeps, FramePlaceKeeps, GoodShape, AllKeep, FrameWhy, Bound, IsForward, ShapePlaceKeeps, ShapeWhy, ShapeKeeps}
pub use Rattle.dvg_items.specs.Known.{stop_effect, Context, frame_context, target, words_before, depth_before, place_before, depth_under, callee, known_before, shape_context, scale_before, callee_words, draw_effect, callee_effect, scale_set, effect_of}
pub use Rattle.dvg_words.specs.declared.instruction.Instr.TheVariants.{Labs, Halt, Jsrl, Rtsl, Jmpl, Draw as Draws}
pub use Rattle.dvg_check.specs.Drift.{on, Course, course_past, course_at, course_after, course_along, OnlyRounds, Both, course_at_start, place_of, PlaceIsSum, course_of, FewDraws, RunsOnlyRound, HalfPlaceEach, IsInset, InsetIsSafe}
pub use Rattle.dvg_check.specs.Private.Tails.{BoxInWindow, last_item, ClaimsLess, known_at_end, claimed, place_over, known_over, first_seen, MayStandAt, MayStandFirst, IsBehind, after_item, IsSmall, Tail, IsTail, end_of, entry_of, AreTails}
pub use Rattle.dvg_check.specs.Laws.{CountsAtHalt, IsDrawAtPlaces, SafeIsWithinOnCircuit, SafeIsSafeOnCircuit, CountsAreOnCircuit, OneFault, NoFault, OneCount, NoShapeFault, OneShapeFault, GoodIsSafe, ExactIsExact, word_of, IsDrawOrLabs, lit_on, StrokeInWindow, SafeStrokes, SafeStack, OneShape, AllShapes, Past, OneItem, IsBetween}
pub use Rattle.dvg_words.specs.declared.instruction.Cell.TheVariants.{Holds, Odd, Missing}
pub use Rattle.dvg_items.specs.Lit.{PlaceKnown, ScaleKnown, LitInWindow, LitInBox, IsInside, InBox, box_extent, draw_extent, callee_extent}
pub use Rattle.dvg_words.specs.Memory.{Rom, frame_word, rom_word, InRom, InFrame}
pub use Rattle.dvg_check.specs.Behaving.{Counts, LitFits, Stretch, PlaceFits, ScaleFits, box_at, Returned, Behaves}
pub use Rattle.dvg_check.specs.Safety.{Safe, Ends, IsSafeStatus, IsMapped, IsSafeState, HaltsWithin, StaysSafe}
pub use Rattle.dvg_words.specs.Generator.{Step, lit_by, after_call, after_return, places}
pub use Rattle.dvg_words.specs.declared.machine.Machine.{Machine}
pub use Rattle.dvg_cert.specs.declared.entry.Entry.{Entry}
pub use Rattle.dvg_cert.specs.declared.entry.End.TheVariants.{Rel, Abs, Lost}
pub use Rattle.dvg_words.specs.declared.machine.Machine.TheVariants.{Board, Profile}
pub use Rattle.dvg_items.specs.declared.item.Kind.TheVariants.{Frame, Shape}
pub use Rattle.dvg_items.specs.Seen.{seen_at, HasCallee, extent}
pub use Rattle.dvg_words.specs.declared.instruction.Cell.{Cell}
pub use Rattle.dvg_items.specs.declared.item.Item.{Item}
pub use Rattle.dvg_words.specs.declared.beam.Point.{Point}
pub use Rattle.dvg_check.specs.FirstFault.{frame_number, AllBefore, FaultAt, shape_number, ShapeFaultAt, FirstFrameFault}
pub use Rattle.dvg_words.specs.declared.instruction.Format.{Format}
pub use Rattle.dvg_words.specs.declared.instruction.Instr.{Instr}
pub use Rattle.dvg_words.specs.declared.instruction.Format.TheVariants.{Short, Long}
pub use Rattle.dvg_check.specs.Passing.{AllKept, IsKept, Kept, moved, set_number}
pub use Rattle.dvg_cert.specs.declared.entry.LitBox.TheVariants.{Empty, Span}
pub use Rattle.dvg_check.specs.Finding.{IsFound, FaultFound, Found, ShapeFaultFound, ShapeFinding, FirstShapeFound}
pub use Rattle.dvg_check.specs.Circuit.{SafeOnCircuit, CountsOnCircuit, IsPast, IsSafeRun, SafeRuns, CountsOfRun}
pub use Rattle.dvg_check.specs.Means.{Means}
pub use Rattle.dvg_items.proofs.Points.{shift_origin, shift_shift, point_is, origin_shift}
pub use Rattle.dvg_items.proofs.Leading.{Same, same_lead, too_long, shorter, everywhere, item_same}
pub use Rattle.dvg_items.proofs.Lists.{all_append, all_map, all_right, at_place}
pub use Rattle.dvg_words.specs.Beam.{labs_coordinate, labs_place, IsWithin}
pub use Rattle.dvg_check.specs.Example.{memory_for, example_list, rom_for, example_entry, WorkedExample}
pub use Rattle.dvg_words.specs.Laws.{state_of, StackWithinMax}
pub use Rattle.dvg_items.proofs.Near.{word_count-some, next_further, next_near}
pub use Rattle.dvg_items.proofs.Reached.{place_more, box_more, place_after, wall, in_wall, inside_wall, reached_by_point, nothing_reached}
pub use Rattle.dvg_words.specs.declared.map.TheConstants.{ADDRESS_END}
pub use Rattle.dvg_cert.specs.declared.entry.LitBox.{LitBox}
pub use Rattle.dvg_words.specs.Values.{Source, asteroids}
pub use Rattle.dvg_check.specs.Private.Judging.{WalksTo, seen_by, KeepsAll, BreaksFirst}
pub use Rattle.dvg_words.specs.Decoding.{cell_of_format, is_plain_labs, LabsOnScreen}
pub use Rattle.dvg_items.proofs.Listed.{listed_claim, named_listed, listed_at}
pub use Rattle.dvg_cert.specs.declared.entry.End.{End}
pub use Rattle.dvg_cert.specs.declared.entry.Key.{Key}
pub use Rattle.dvg_items.specs.declared.known.Known.{Known}
pub use Rattle.dvg_cert.specs.declared.entry.Key.TheVariants.{At, Any}
pub use Rattle.dvg_items.specs.declared.lit.LitExtent.TheVariants.{Between, Nothing, Anywhere}
pub use Rattle.dvg_items.specs.declared.item.Kind.{Kind}
pub use Rattle.dvg_items.specs.declared.known.Effect.{Effect}
pub use Rattle.dvg_items.specs.declared.seen.Seen.{Seen as SeenItem, Seen}
pub use Rattle.dvg_check.specs.Judged.{Shapes, IsJudged}
pub use Rattle.dvg_circuit.specs.declared.circuit.Circuit.{Circuit}
pub use Rattle.dvg_circuit.specs.declared.counters.Counters.{Counters}
pub use Rattle.dvg_items.specs.Bounds.{IsNearBox, ITEM_REACH, IsSoundStep, IsNearExtent}
pub use Rattle.dvg_circuit.specs.Premises.{IsStart}
pub use Rattle.dvg_items.specs.declared.lit.LitExtent.{LitExtent}
pub use Rattle.dvg_cert.specs.Order.{Certificate}
