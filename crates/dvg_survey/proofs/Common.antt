-- The names that these proofs share, passed on from one place, the most cited first. Declares nothing.
pub use Rattle.std.proofs.lemmas.List.Elements.{Contains-append_left, Contains-push, Contains-push_cases, Contains-append_right}
pub use Rattle.std.proofs.Common.{◌-ℤ◌, ◌≤ℤ◌, set, IsPermutation, map, All, add-one}
pub use Rattle.std.proofs.lemmas.Bool.Decides.{Decides-int_eq}
pub use Rattle.std.proofs.lemmas.List.{append-nil, get_or-set_other, reverse-append, length-map}
pub use Rattle.std.specs.Int.{int_div_euclid}
pub use Rattle.std.proofs.lemmas.Option.{slice_get_within}
pub use Rattle.dvg_check.proofs.Common.{Source, ◌≡◌, ℕ, ◌<◌, List, [], ◌∷◌, length, sym, subst, arith, ⊎_elim, cases_lt, LeadsTo, item_same, same_lead, ◌+◌, ◌≤◌, get_or, ◌∙◌, Contains, Rom, rom_word, shape_context, InBox, all_map, get_or_default, IsInside, suc, ◌-◌, ◌++◌, Some, refl, ap, AllByRecursion, IsClaim, IsSomeCertificate, Context, callee, scale_before, target, listed_claim, all_append, append_assoc, depth_under, named_listed, Option, IfSome, entry_at, listed_at, rules, common_steps, all_right, zero, Bool, true, false, None, frame_word, frame_context, take, ◌⊎◌, inl, inr, nat_tests, next_address, shorter, everywhere, ◌≢◌, replicate, get_or-set_same, pos, ℤ, ◌+ℤ◌, ◌*ℤ◌, ints, Window, LitInWindow, box_extent, seen_at, place_before, extent, ShapeKeeps, CellKeeps, ShapePlaceKeeps, IsNearPlace, known_before, next_further, seen_by, IsNearBox, first_seen, known_over, origin, shift, origin_shift, shift_shift, moved, place_over, reverse, scale_set, IsSoundCursor, IsSoundStep, w16, w64, to_z-of_z, SFits, IsNearExtent, set_number, next_near, box_more, ITEM_REACH, IsCertificate, unwrap_or, Entry, Item, ADDRESS_END, Rel, Abs, Lost, Empty, Span, Holds, Missing, Odd, Key, LitBox, Seen, Shape, End, Known, Point, Format, Instr, Kind, LitExtent, Machine, length-append}
pub use Rattle.dvg_cert.proofs.Common.{is_some, slice_get, ◌||◌, is_at, IfNone, IsOnlyAt, HasNoneAt, IsRising, Contains-get_or, MemoryMap, cond, ◌↔◌}
pub use Rattle.dvg_items.proofs.Common.{callee_at, AtEachOf}
unfoldable pub use Rattle.dvg_check.proofs.Common.{cell_at}
pub use Rattle.dvg_survey.specs.Calls.{IsExtent, HoldsShape, HoldsShapes, Call, call_of, calls_among, AreCalls}
pub use Rattle.dvg_survey.specs.Private.Reaching.{Link, AllSteps, IsBackward, IsStep, reach, reach_all, entries_of, IsReachedByFrame, IsReachedByShape, AreNames, name_of, IsTrace}
pub use Rattle.dvg_survey.specs.Private.KeyedWords.{KeyedWord, AreNone, HasWord, word_number, is_marked, with_word}
pub use Rattle.dvg_items.specs.Least.{HoldsAll, absolute_points, IsLeast, lit_points}
pub use Rattle.dvg_survey.specs.Chains.{IsShapeCall, Calls, LeadsOn, IsChain, IsFrameCall}
pub use Rattle.dvg_survey.specs.Private.Sweeping.{is_broken, IsUnbroken, IsCleanItem, IsClean, IsFaulty, Breaks, AllBreak, IsSwept, TellsBroken}
pub use Rattle.dvg_survey.specs.Places.{CallPlaces, HasPlace, IsCallAt, whole_place, EntryPlaces, ArePlaces, AreAllPlaces, IsNotEmpty, ShapeKeepsWindow}
pub use Rattle.dvg_items.specs.Lit.{absolute_corners, relative_corners, corners}
pub use Rattle.dvg_survey.specs.Private.Visiting.{keyed, CallsFrom, IsMet, AllMet, AreNewCalls}
pub use Rattle.dvg_survey.specs.Private.Walking.{context_of}
pub use Rattle.dvg_survey.specs.Losses.{NoneLead, place_loss, place_lost_by, scale_loss, scale_lost_by}
pub use Rattle.dvg_survey.specs.Survey.{FrameSurvey, IsSurveyAmong}
pub use Rattle.dvg_items.proofs.LeastBoxes.{IsJoined, in_wider}
pub use Rattle.dvg_cert.specs.Entry.{IsKey, IsBox}
pub use Rattle.dvg_check.proofs.TailSizes.{IsNearBox-joined, IsNearBox-moved, IsNearBox-spanning}
pub use Rattle.dvg_items.specs.Cursor.{first_cursor, step_past}
pub use Rattle.dvg_items.specs.declared.cursor.Cursor.{Cursor}
pub use Rattle.dvg_items.specs.declared.cursor.Step.{Step}
pub use Rattle.dvg_items.specs.declared.cursor.Step.TheVariants.{Onward, Last}
pub use Rattle.dvg_items.proofs.Stepping.{leads_on, ends_at}
pub use Rattle.dvg_check.proofs.TailRows.{one_more_kept, claim_at, none_kept}
pub use Rattle.dvg_items.proofs.Lists.{all_left}
pub use Rattle.dvg_items.specs.Seen.{seen_with}
pub use Rattle.std.proofs.Common.{Result}
pub use Rattle.std.proofs.Math.Seq.{take-suc}
pub use Rattle.dvg_make.proofs.Common.{later, GoodShape, Good, AllBefore, EachItem, MadeEntry, Needs, IsAskedFor, FramesMade, FrameMade, FrameRefused, FramesRefuse, HasCause, word_count, GoodFrame, FrameKeeps, HasEntry, FrameAsksFor, cell_of_words, word_of_rom}
pub use Rattle.dvg_check.proofs.Common.{nat_lt, IsMemory, word_at, State, Status, Running, Halted, Fault, Reached, after_call, after_return, after_instruction, places, address_after, format_of, fetches}
unfoldable pub use Rattle.dvg_check.proofs.Common.{next_status}
pub use Rattle.dvg_survey.specs.Touched.{IsTouched, ReachesTouched, AreAlike, taken_at, DiffersAt, ReadsDiffering, TouchedEntry, AreTouched}
pub use Rattle.dvg_items.specs.declared.item.Kind.TheVariants.{Frame}
pub use Rattle.dvg_make.specs.declared.fault.EntryFault.TheVariants.{Unstraight, Deep, TooManyWords, TooManyEntries, Memory}
pub use Rattle.dvg_survey.specs.Laws.{SameList}
pub use Rattle.dvg_survey.specs.Comparing.{FrameReaches, EachReaches}
pub use Rattle.dvg_words.specs.declared.instruction.Format.TheVariants.{Short, Long}
pub use Rattle.dvg_words.specs.declared.instruction.Cell.{Cell}
pub use Rattle.dvg_check.specs.declared.fault.Mode.TheVariants.{Exact}
pub use Rattle.dvg_items.specs.Known.{start}
pub use Rattle.dvg_items.proofs.Seeing.{IsNext, Comes, comes_first, comes_on, next_is, all_given}
pub use Rattle.dvg_items.proofs.Leading.{stand_before}
pub use Rattle.dvg_items.specs.Items.{Stand, AreAll}
