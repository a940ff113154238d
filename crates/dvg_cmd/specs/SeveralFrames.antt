-- What a run writes of several frames that are judged one after another. All of it is this project's own.
use Rattle.std.specs.Prelude.{◌≡◌, ℕ, List, [], ◌∷◌, ◌++◌, length, Option, None, Some, string_bytes, Result, Ok, Err}
use Rattle.dvg_words.specs.declared.machine.Machine.{Machine}
use Rattle.dvg_words.specs.Memory.{rom_on, IsRomLength}
use Rattle.dvg_words.specs.Values.{Window}
use Rattle.dvg_words.specs.declared.image.ImageFault.TheVariants.{RomLength}
use Rattle.dvg_text.specs.Devices.{count_after}
use Rattle.dvg_cert.specs.Order.{Certificate}
use Rattle.dvg_cert.specs.declared.fault.CertFault.{CertFault}
use Rattle.dvg_check.specs.FirstFault.{FirstShapeFault}
use Rattle.dvg_check.specs.Judged.{Shapes}
use Rattle.dvg_check.specs.declared.fault.Mode.TheVariants.{Bound}
use Rattle.dvg_check.specs.declared.verdict.Refusal.{Refusal}
use Rattle.dvg_check.specs.declared.verdict.Refusal.TheVariants as refusal
use Rattle.dvg_spelling.specs.Outcomes.{answer_outcome, frame_refusal_outcome}
use Rattle.dvg_spelling.specs.Report.{frame_refusal_text, line_text}
use Rattle.dvg_spelling.specs.Tally.{no_lines, with_answer as counted, summary_text}
use Rattle.dvg_cmd.specs.Detail.{Detail, has_account}
use Rattle.dvg_cmd.specs.Remarking.{FrameDetail, BehindFrame, IsBehindFrame, answer_detail, called_with, outcome_behind_frame, remarked_with, remarks_texts, text_behind_frame}
use Rattle.dvg_cmd.specs.declared.listing.Listing.{Listing}
use Rattle.dvg_cmd.specs.declared.several_frames.NamedReader.{NamedReader}
use Rattle.dvg_cmd.specs.declared.summary.FramesSummary.{FramesSummary}
use Rattle.dvg_cmd.specs.Called.{called_texts}
use Rattle.dvg_cmd.specs.Most.{most_texts, with_frame}
use Rattle.dvg_cmd.specs.Telling.{Line, Telling, layout_of}
use Rattle.dvg_cmd.specs.Runs.{Outcome, WritesReport, WritesReportPrefix}
use Rattle.dvg_cmd.specs.Frames.{FrameAnswer, Unread, is_unread, Judging, AnswersFrame, judged_over}

-- what is known of no frame
abbrev pub no_frames : FramesSummary
no_frames = record { tally = no_lines; most = None; remarks = None; called = [] }

-- what a line adds to what is known, whether it is written or not
abbrev pub summed_with : FramesSummary → Line (FrameAnswer × BehindFrame) → FramesSummary
summed_with s line =
    record {
      tally = counted s.tally line.answer.0;
      most = with_frame s.most line.name line.answer.0;
      remarks = remarked_with s.remarks line.answer.1;
      called = called_with s.called line.answer.1;
    }

-- the texts that tell it: the frames that take most, how many remarks there are, which shapes refused frames call, and how many lines
-- say what
abbrev pub summary_texts : FramesSummary → List (List ℕ)
summary_texts s = most_texts s.most ++ (remarks_texts s.remarks ++ (called_texts s.called ++ summary_text s.tally ∷ []))

-- how it is told of frames
abbrev pub of_frames : Listing FrameDetail → Telling (FrameAnswer × BehindFrame) FramesSummary
of_frames listing =
    record {
      text = λ answer. line_text frame_refusal_text answer.0 ++ text_behind_frame answer.1;
      outcome = λ answer. outcome_behind_frame answer.1 (answer_outcome frame_refusal_outcome answer.0);
      layout = layout_of listing (has_account (answer_detail listing.detail));
      none = no_frames;
      add = summed_with;
      last = summary_texts;
    }

-- `remaining` is what a reader still holds, and `failures` its count of failed reads
module _ {R : Type 0} (remaining : R → Option (List ℕ)) (failures : R → ℕ)
    (j : Judging) (start : Option ℕ) where
  -- the answer to a frame: `Unread` if it can't be opened; else the answer to what its reader held, `Unread` exactly where a read failed
  abbrev pub AnswersOpened : Option R → FrameAnswer → Type 0
  AnswersOpened None answer = answer ≡ Unread
  AnswersOpened (Some reader) answer =
      (left : R) × AnswersFrame j start (remaining reader) (remaining left) answer
      × (failures left ≡ count_after (is_unread answer) (failures reader))

  -- the line of a frame: its name, the answer to it, and behind the line what the detail asks for
  pub record IsLineOfFrame (detail : FrameDetail) (frame : NamedReader R) (line : Line (FrameAnswer × BehindFrame)) : Type 0 where
    pub name_is : line.name ≡ string_bytes frame.name
    pub answers : AnswersOpened frame.reader line.answer.0
    pub asked : IsBehindFrame detail line.answer.0 line.answer.1

-- ---- by a given certificate

-- what a certificate is refused with over the bytes of a ROM, with counts as bounds: 1 if the ROM's length is not that of its map;
-- else that memory was out for the index, or the first fault of its shapes
abbrev pub RefusesShapes : Machine → Window → List ℕ → Certificate → Refusal → Type 0
RefusesShapes machine w rom c (refusal.Image RomLength) = IsRomLength c.map (length rom) → ⊥
RefusesShapes machine w rom c refusal.IndexMemory = IsRomLength c.map (length rom)
RefusesShapes machine w rom c (refusal.Shape f) =
    IsRomLength c.map (length rom) × FirstShapeFault Bound w (rom_on machine c.map rom) c.entries f
RefusesShapes machine w rom c r = ⊥

-- a refusal for which no frame is opened: of the text of a certificate, or of the certificate over the bytes of a ROM
abbrev pub RefusesAll : Machine → Window → List ℕ → Result Certificate CertFault → Refusal → Type 0
RefusesAll machine w rom (Err f) r = r ≡ refusal.Cert f
RefusesAll machine w rom (Ok c) r = RefusesShapes machine w rom c r

-- its report was written, and nothing else
pub record ReportsRefusal
    (machine : Machine) (detail : Detail) (w : Window) (rom : List ℕ) (cert : Result Certificate CertFault) (old new : Option (List ℕ))
    (writes writes_after : ℕ) (end : Outcome) : Type 0 where
  pub refused : Refusal
  pub refuses : RefusesAll machine w rom cert refused
  pub report : WritesReport detail (Err refused) old new writes writes_after end

-- a prefix of its report was written
pub record ReportsRefusalPrefix
    (machine : Machine) (detail : Detail) (w : Window) (rom : List ℕ) (cert : Result Certificate CertFault)
    (old new : Option (List ℕ)) : Type 0 where
  pub refused : Refusal
  pub refuses : RefusesAll machine w rom cert refused
  pub report : WritesReportPrefix detail (Err refused) old new

-- the shapes of a certificate over the bytes of a ROM on a machine, with counts as bounds
abbrev pub shapes_of : Machine → Window → List ℕ → Certificate → Shapes
shapes_of machine w rom c = record { rom = rom_on machine c.map rom; list = c.entries; window = w; mode = Bound }

-- how frames are judged over them
abbrev pub judged_given : Machine → Window → List ℕ → Certificate → ℕ → Judging
judged_given machine w rom c budget = judged_over (shapes_of machine w rom c) (length c.entries) budget
