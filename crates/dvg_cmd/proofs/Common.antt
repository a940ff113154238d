-- The names that these proofs share, passed on from one place, the most cited first. Declares nothing.
pub use Rattle.std.proofs.Common.{append-nil, String, Global, min}
pub use Rattle.std.specs.Io.KnownBytes.{Consumes, IsAtEnd}
pub use Rattle.std.proofs.Math.Seq.{drop-cons, set-append_seam, get_or-append_seam}
pub use Rattle.std.proofs.KnownBytes.{Consumes-trans}
pub use Rattle.std.proofs.lemmas.List.{drop_all}
pub use Rattle.dvg_spelling.proofs.Common.{◌≡◌, ℕ, List, ◌++◌, length, Option, ◌∷◌, subst, [], None, Some, refl, ap, ◌∙◌, sym, arith, ◌<◌, Window, rules, common_steps, take, ◌+◌, ◌≤◌, get_or, ◌≢◌, suc, string_bytes, take-suc, ◌*◌, codes}
pub use Rattle.dvg_make.proofs.Common.{append_assoc, Result, Ok, Err, IfOk, IfSome, OnOk, Means, MemoryMap, IsMap, IsErrAnd, IfErr, drop, HasCallCause, VerdictByMade, IsJudged, length-append, Certificate, make_fault_of, ◌/◌, ◌%◌, opcode}
pub use Rattle.dvg_survey.proofs.Common.{◌⊎◌, Rom, FramesMade, FramesRefuse, HasCause, FrameRefused, zero, inl, ◌-◌, Bool, cases_lt, cell_of_words, inr, ◌↔◌}
pub use Rattle.dvg_text.proofs.Common.{Appends, count_after, AppendsPrefix, text_of, OnErr, take-append-le, take-append-add, Appends-trans, IsRefusal}
pub use Rattle.dvg_verdict.proofs.Common.{IsRomLength, rom_on, Spells, ReadAnswer}
pub use Rattle.dvg_words.proofs.Common.{words_of, IsFrameLength, IsTrue}
pub use Rattle.dvg_survey.proofs.Common.{true, AreAllPlaces, false, set}
pub use Rattle.dvg_labels.proofs.Common.{take-append-drop, take_all}
pub use Rattle.dvg_check.proofs.Common.{Memory}
unfoldable pub use Rattle.dvg_survey.proofs.Common.{cell_at}
unfoldable pub use Rattle.dvg_make.proofs.Common.{instruction_of}
pub use Rattle.dvg_cmd.specs.MakingFrames.{MakeRunFault, FailedAfter, blames_frames_rom, of_each, AreFrames, MakesForFrames, FramesFaultMeans, RefusesInputs, RefusesMemory, EachHeld, EachRead, FirstWrong, OneFailed, blames_a_frame}
pub use Rattle.dvg_cmd.specs.Runs.{IsReadTo, RunFault, MOST_FRAME_READ, ReadsText, Judges, Outcome, Accepted, IsReadFor, outcome_of, WritesReport, Reports, ReportsAccepted, MeansRead, NeedsEnd, NoMemory}
pub use Rattle.dvg_cmd.specs.Sent.{joined, TakeOneWriteEach, Sent}
pub use Rattle.dvg_cmd.specs.Frames.{FrameAnswer, Judged, Judging, ReadsFrame, AnswersFrame, IsReadFrom, VerdictOnBytes, IsRefused, IsJudgedRefusal, worse}
pub use Rattle.dvg_cmd.specs.Private.Reading.{IsPrefix, ArePrefixes, RefusesLengths, taken_length}
pub use Rattle.dvg_cmd.specs.Detail.{Detail, Behind, IsBehind, behind_text, outcome_behind}
pub use Rattle.dvg_cmd.specs.Remarking.{FrameDetail}
pub use Rattle.dvg_words.specs.declared.machine.Machine.{Machine}
pub use Rattle.dvg_check.specs.Verdict.{InRange, RomVerdict, RangeRefusal, PartsVerdict}
pub use Rattle.dvg_cmd.specs.Making.{WritesMade, WritesMadePrefix, MakeFaultMeans, Makes}
pub use Rattle.dvg_cmd.specs.Names.{MOST_NAME_READ, Lacks, ReadsName, end_byte}
pub use Rattle.dvg_cmd.specs.Comparing.{ComparesFor, reaching_lines, ComparisonFaultMeans, comparison_lines}
pub use Rattle.dvg_check.specs.declared.verdict.Yes.{Yes}
pub use Rattle.dvg_cert.specs.declared.entry.Key.{Key}
pub use Rattle.dvg_text.specs.Stream.{Stream, Open, FeedsTo}
pub use Rattle.dvg_cmd.specs.Private.Inputs.{AreInputImages, AreRead}
pub use Rattle.dvg_words.specs.declared.machine.Machine.TheVariants.{Board, Profile}
pub use Rattle.dvg_cert.specs.declared.fault.CertFault.{CertFault}
pub use Rattle.dvg_check.specs.declared.fault.Mode.{Mode}
pub use Rattle.dvg_check.specs.declared.verdict.Refusal.{Refusal}
pub use Rattle.dvg_text.specs.Laws.{ShortText, PrefixRefusal}
pub use Rattle.dvg_spelling.specs.Faults.{told_fault, make_run_number}
pub use Rattle.dvg_cmd.specs.Private.Judging.{AreImages, JudgesRom}
pub use Rattle.dvg_cert.specs.declared.fault.CertWhy.{CertWhy}
pub use Rattle.dvg_cert.specs.declared.entry.Entry.{Entry}
pub use Rattle.dvg_make.specs.declared.fault.EntryFault.{EntryFault}
pub use Rattle.dvg_make.specs.declared.judging.FrameRefusal.{FrameRefusal}
pub use Rattle.dvg_text.specs.Devices.{TakesOneWrite}
unfoldable pub use Rattle.dvg_cmd.specs.Private.Reading.{limited}
pub use Rattle.dvg_cmd.specs.Start.{started}
