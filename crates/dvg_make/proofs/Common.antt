-- The names that these proofs share, passed on from one place, the most cited first. Declares nothing.
pub use Rattle.std.specs.Prelude.{Bool, true, false, ◌*ℤ◌, slice_range, OnOk, IfErr, IsErrAnd, IsSome}
pub use Rattle.std.proofs.lemmas.List.Elements.{Contains-append_cases, Contains-append_left, Contains-append_right, All-head, All-tail, All-push}
pub use Rattle.std.specs.Map.{values_of, keys_of, lookup}
pub use Rattle.std.specs.Option.{option_or}
pub use Rattle.std.specs.List.{All}
pub use Rattle.std.proofs.Common.{take-suc, take_all, take-append-drop}
pub use Rattle.indexmap.proofs.CallerLemmas.{insert_entry-new}
pub use Rattle.dvg_check.proofs.Common.{◌≡◌, ℕ, zero, suc, ◌+◌, ◌<◌, List, [], ◌∷◌, Option, Some, refl, sym, ◌∙◌, subst, arith, Contains, Rom, rom_word, entry_at, LeadsTo, target, scale_before, listed_at, ◌≢◌, ◌≤◌, ◌++◌, None, ap, ⊎_elim, ints, screen, next_address, Context, shape_context, callee, callee_words, place_before, words_before, depth_before, depth_under, known_before, InBox, IsInside, extent, seen_at, HasCallee, all_append, word_count-some, ShapeKeeps, CellKeeps, rules, all_map, length, ◌⊎◌, inl, inr, length-append, if◌then◌else◌, take, drop, get_or, InRom, unwrap_or, IfSome, IsClaim, scale_set, Window, AllBefore, all_right, AtLast, example_entry, example_list, AllKeep, IsCertificate, frame_word, frame_context, LitInWindow, Good, GoodFrame, word_count, FrameKeeps, FramePlaceKeeps, Source, append_assoc, cases_lt, next_near, same_lead, shorter, everywhere, ◌-◌, box_extent, ◌≤ℤ◌, ℤ, neg_ℤ, PlaceKnown, ScaleKnown, seen_by, moved, known_at_end, known_over, place_over, place_past, DrawFields, effect_of, draw_extent, LitInBox, AllByRecursion, IsSoundStep, at_place, Result, Ok, Err, max, IfOk, Means, Shapes, GoodShape, pos, negsuc, ◌*◌, ◌/◌, ◌%◌, nat_le, nat_tests, ◌==◌, origin, shift, effective_scale, axis_move, labs_place, IsWithin, cell_holding, cell_of_words, cell_of_format, draw_effect, callee_effect, place_moved_by, callee_extent, common_steps, ShapePlaceKeeps, slice_index_or, Certificate, ADDRESS_END, Abs, Any, Anywhere, At, Between, Board, Cell, Draws, Effect, Empty, End, Entry, Format, Frame, Halt, Holds, Instr, Item, Jmpl, Jsrl, Key, Known, Labs, LitBox, LitExtent, Long, Lost, Machine, Missing, Nothing, Odd, Point, Profile, Rel, Rtsl, Seen, Shape, Short, Span}
pub use Rattle.dvg_cert.proofs.Common.{slice_get, IsEntry, is_at, Contains-get_or, IsTrue, ◌↔◌, IsRising, IsMap, IsKeyed, IfNone, IsOnlyAt, HasNoneAt, ◌&&◌, nat_eq, KeyBefore, Before, IsOwn, cond, is_some, All-nil, All-cons, MemoryMap, same_key}
pub use Rattle.dvg_items.proofs.Common.{callee_at, clamps, InstrFits, AtEachOf, AtEveryPlace}
unfoldable pub use Rattle.dvg_check.proofs.Common.{cell_at, displacement, instruction_of}
pub use Rattle.dvg_make.specs.Private.Making.{shapes, blocked_fault, IsRefused, IsMaking, ArePartial, Chain, Apart, IsPresent, IsCalled, IsAim, NoAim, IsDone, InProgress, IsUnique, IsGiven, Bars, obstacle_fault, Collected, IsToldOf, HasAll, IsBlocked, asked_shape, IsToldFrom, AllCalled, AreLinked, NotBegun, TellsObstacle, IsNoRoot, IsBegun, TellsRight, IsRightFor, BarsAll, TellsAll}
pub use Rattle.dvg_make.specs.Private.Partial.{entry_of, AllFine, Extends, start, IsPartial, IsFinished, IsWaiting, NeverAt, IsTail, Passes, IsCallee, IsFine, KnowsAt, AreTails, EndsBy, EndsByOne, shape_of, IsStopped, LacksCallee, IsAbsent, Advances}
pub use Rattle.dvg_make.specs.Made.{MadeEntry, HasEntry, IsMade, AllMade, MadeFor, EachItem, AtEnd, MadeKeeps, AllHold, Needs, Made, Barred}
pub use Rattle.dvg_make.specs.Refusals.{EntryFault, FrameCall, FramesFault, make_fault_of, Unstraight, Deep, TooManyWords, TooManyEntries, Memory, FramesRefuse, Refuses, BarsList, NoFramesMade, NoneAccepts, BarsEntry, CallBarredAt, BarsFrame}
pub use Rattle.dvg_make.specs.Accounts.{EntryCause, HasCause, MakeAccount, IsAccount, IsTold, HasRootCause, entry_fault, RootOutside, IsNamedBy, IsNeededBy, UnlessMemory, AllTaken, ShapeAt, Reaches, Precedes, IsLinked, last_shape, SaysOf, CauseAt, AreUnmade, Tells, CallsAt, IsAsked, IsStraight, keyed_context}
pub use Rattle.dvg_make.specs.Private.Framing.{HasCalls, IsFramed, BarsHere, AllFramed, TellsHere, BarsCalls, NoneHasCalls, BlocksHere, KeyedCall, IsGivenHere, IsCalledBy, LongHasCalls, BlocksTarget}
pub use Rattle.dvg_cert.specs.declared.limits.TheConstants.{MOST_ENTRIES, MOST_WORDS, MOST_DEPTH}
pub use Rattle.dvg_items.specs.Least.{lit_points, HoldsAll, IsLeast}
pub use Rattle.dvg_make.specs.declared.partial.PartialEntry.{PartialEntry}
pub use Rattle.dvg_make.specs.Private.Covering.{KnowsMore, Loosens, LoosensPlace, Refines, Covers, Upholds, HasCover}
pub use Rattle.dvg_check.specs.declared.fault.Mode.{Mode}
pub use Rattle.dvg_make.specs.Frames.{IsAskedFor, HasAsked, FramesMade, AllKeyed, FrameAsksFor, FrameMade}
pub use Rattle.dvg_cert.proofs.OnlyEntries.{at_holds, at_means, found, not_before, before_next, before_later, rising_tail, first_or_later, later}
pub use Rattle.dvg_cert.proofs.Pairs.{pair_test, pair_eq, lookup_is, values_of-append, keyed_claim, keyed_push, length-values_of, key_test}
pub use Rattle.dvg_cert.specs.Entry.{IsKey, IsBox, IsEnd}
pub use Rattle.dvg_make.specs.Judging.{HasCallCause, refusal_at, FrameRefused, VerdictByMade, AreLeast, CheckMeans, checked, refusal_by}
pub use Rattle.dvg_items.specs.Lit.{relative_corners, extent_of}
pub use Rattle.dvg_make.specs.Laws.{WorkedExampleMade, AllInWindow, NoneBetter, OneFramesMade, OneMade, GoodInWindow, ItemInWindow}
pub use Rattle.dvg_make.specs.declared.obstacle.Obstacle.{Obstacle}
pub use Rattle.dvg_check.proofs.Faults.{all_kept, no_fault, no_shape_fault, one_count}
pub use Rattle.dvg_items.specs.Seen.{seen_with}
pub use Rattle.dvg_words.specs.Decoding.{opcode, is_long_opcode, labs_field, magnitude_and_sign}
pub use Rattle.dvg_make.specs.declared.obstacle.Blocked.{Blocked}
pub use Rattle.dvg_make.specs.Private.Stacked.{IsOwnPartial}
pub use Rattle.dvg_items.proofs.Lists.{all_left, all_listed}
pub use Rattle.dvg_items.proofs.LeastBoxes.{in_wider}
pub use Rattle.dvg_check.proofs.Modes.{in_bound}
pub use Rattle.dvg_items.specs.Known.{known_past}
pub use Rattle.dvg_items.specs.declared.known.Effect.TheVariants.{Sets, Loses, Moves}
pub use Rattle.dvg_items.specs.Cursor.{step_past}
pub use Rattle.dvg_items.specs.declared.cursor.Step.TheVariants.{Last, Onward}
pub use Rattle.dvg_items.specs.declared.cursor.Cursor.{Cursor}
pub use Rattle.dvg_items.specs.declared.cursor.Step.{Step}
pub use Rattle.dvg_make.specs.Private.Judged.{IsJudged, IsRelative}
pub use Rattle.dvg_cert.specs.Lookup.{named_entry}
pub use Rattle.dvg_words.specs.Beam.{rounded, factor}
pub use Rattle.dvg_words.specs.Memory.{word_of_rom}
pub use Rattle.dvg_check.specs.declared.fault.Mode.TheVariants.{Bound, Exact}
pub use Rattle.dvg_check.specs.declared.fault.ShapeWhy.{ShapeWhy}
pub use Rattle.dvg_check.specs.declared.fault.FrameWhy.{FrameWhy}
