-- What a run writes behind the line of a frame. All of it is this project's own.
use Rattle.std.specs.Prelude.{◌≡◌, ℕ, List, [], ◌∷◌, Option, Some, None, Ok, Err, IfSome, codes, string_bytes}
use Rattle.dvg_account.specs.declared.remarked.FrameRemark.{FrameRemark}
use Rattle.dvg_spelling.specs.Outcomes.{worse}
use Rattle.dvg_spelling.specs.Tally.{answer_number}
use Rattle.dvg_spelling.specs.Remarks.{no_remarks, with_kind, remarks_text}
use Rattle.dvg_spelling.specs.declared.remark.RemarkTally.{RemarkTally}
use Rattle.dvg_check.specs.declared.verdict.Yes.{Yes}
use Rattle.dvg_spelling.specs.Outcomes.{FrameAnswer}
use Rattle.dvg_spelling.specs.declared.outcome.Outcome.{Outcome}
use Rattle.dvg_spelling.specs.declared.outcome.Outcome.TheVariants.{NoMemory}
use Rattle.dvg_cmd.specs.Detail.{Detail, IsBehind, behind_text, outcome_behind}
use Rattle.dvg_cmd.specs.declared.detail.Detail.TheVariants as details
use Rattle.dvg_cmd.specs.Called.{Called, CalledCount, called_by, with_called}
use Rattle.dvg_words.specs.declared.machine.Machine.{Machine}
use Rattle.dvg_cmd.specs.Frames.{yes_in}
pub use Rattle.dvg_cmd.specs.declared.remarking.FrameDetail.{FrameDetail}
pub use Rattle.dvg_cmd.specs.declared.remarking.FrameDetail.TheVariants as detail
pub use Rattle.dvg_cmd.specs.declared.remarking.BehindFrame.{BehindFrame}
pub use Rattle.dvg_cmd.specs.declared.remarking.BehindFrame.TheVariants as behind

-- what is asked of the judge
abbrev pub answer_detail : FrameDetail → Detail
answer_detail (detail.Answer asked) = asked
answer_detail (detail.Remarks remarking) = details.Line

-- remarks, or that there was no memory for them
abbrev pub AreRemarks : BehindFrame → Type 0
AreRemarks (behind.Answer what called) = ⊥
AreRemarks (behind.Remarks remarks) = Unit {0}

-- remarks stand behind the line of each accepted frame, and of no other
abbrev pub AreRemarksOn : Option Yes → BehindFrame → Type 0
AreRemarksOn (Some accepted) what = AreRemarks what
AreRemarksOn None what = what ≡ behind.Answer (Ok None) None

-- what a detail asks for behind the line of an answer; a called shape is counted by the number of the refusal
abbrev pub IsBehindFrame : FrameDetail → FrameAnswer → BehindFrame → Type 0
IsBehindFrame (detail.Answer asked) answer (behind.Answer what called) =
    IsBehind asked what × IfSome called (λ (c : Called). c.number ≡ answer_number answer)
IsBehindFrame (detail.Answer asked) answer (behind.Remarks remarks) = ⊥
IsBehindFrame (detail.Remarks remarking) answer what = AreRemarksOn (yes_in answer) what

-- a called shape is that of the item because of which a frame of these words is refused
abbrev pub TellsCall : Machine → List ℕ → FrameAnswer → BehindFrame → Type 0
TellsCall machine words answer (behind.Answer what called) = IfSome called (λ (c : Called). called_by machine words answer ≡ Some c.shape)
TellsCall machine words answer (behind.Remarks remarks) = Unit {0}

-- the text that is written behind the line
abbrev pub text_behind_frame : BehindFrame → List ℕ
text_behind_frame (behind.Answer what called) = behind_text what
text_behind_frame (behind.Remarks (Ok remarks)) = string_bytes remarks.text
text_behind_frame (behind.Remarks (Err out_of_memory)) = codes "remarks: out of memory\n"

-- the outcome, from that of the line
abbrev pub outcome_behind_frame : BehindFrame → Outcome → Outcome
outcome_behind_frame (behind.Answer what called) line = outcome_behind what line
outcome_behind_frame (behind.Remarks (Ok remarks)) line = line
outcome_behind_frame (behind.Remarks (Err out_of_memory)) line = worse line NoMemory

-- ---- the summary of remarks

-- with each of these remarks
abbrev pub with_remarks : List FrameRemark → RemarkTally → RemarkTally
with_remarks [] t = t
with_remarks (remark ∷ rest) t = with_remarks rest (with_kind remark.kind t)

-- the tally so far, of which this is one
abbrev pub tally_in : Option RemarkTally → RemarkTally
tally_in None = no_remarks
tally_in (Some t) = t

-- with what stands behind a line
abbrev pub remarked_with : Option RemarkTally → BehindFrame → Option RemarkTally
remarked_with tally (behind.Remarks (Ok remarks)) = Some (with_remarks remarks.found.items (tally_in tally))
remarked_with tally what = tally

-- no line where there are no remarks on any frame
abbrev pub remarks_texts : Option RemarkTally → List (List ℕ)
remarks_texts None = []
remarks_texts (Some t) = remarks_text t ∷ []

-- ---- the summary of called shapes

-- with what stands behind a line
abbrev pub called_with : List CalledCount → BehindFrame → List CalledCount
called_with counts (behind.Answer what (Some called)) = with_called counts called
called_with counts what = counts
