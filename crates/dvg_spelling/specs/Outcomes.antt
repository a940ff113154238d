-- What a line says of a frame or a recipe, and what it comes to. All of it is this project's own.
use Rattle.std.specs.Prelude.{Bool, true, false, Result, Ok, Err}
use Rattle.dvg_cert.specs.declared.fault.CertWhy.{CertWhy}
use Rattle.dvg_cert.specs.declared.fault.CertWhy.TheVariants.{Memory}
use Rattle.dvg_check.specs.declared.verdict.Yes.{Yes}
use Rattle.dvg_check.specs.declared.verdict.Refusal.{Refusal}
use Rattle.dvg_check.specs.declared.verdict.Refusal.TheVariants as refusal
use Rattle.dvg_make.specs.declared.fault.EntryFault.TheVariants as entry
use Rattle.dvg_make.specs.declared.judging.FrameRefusal.{FrameRefusal}
use Rattle.dvg_make.specs.declared.judging.FrameRefusal.TheVariants as frame
use Rattle.dvg_spelling.specs.declared.outcome.Outcome.{Outcome}
use Rattle.dvg_spelling.specs.declared.outcome.Outcome.TheVariants as outcome
use Rattle.dvg_spelling.specs.declared.answer.Answer.{Answer}
use Rattle.dvg_spelling.specs.declared.answer.Answer.TheVariants.{Judged, Timed, Slow, Unread, NoMemory}

-- the outcome of a refused certificate
abbrev pub cert_outcome : CertWhy → Outcome
cert_outcome Memory = outcome.NoMemory
cert_outcome why = outcome.Refused

-- the outcome of an accepted line, and of a refusal
abbrev pub outcome_of : Result Yes Refusal → Outcome
outcome_of (Ok y) = outcome.Accepted
outcome_of (Err (refusal.Cert f)) = cert_outcome f.why
outcome_of (Err refusal.IndexMemory) = outcome.NoMemory
outcome_of (Err r) = outcome.Refused

-- what a line says of a frame
abbrev pub FrameAnswer : Type 0
FrameAnswer = Answer FrameRefusal

-- what the refusal of a frame by its own certificate comes to
abbrev pub frame_refusal_outcome : FrameRefusal → Outcome
frame_refusal_outcome frame.NoMemory = outcome.NoMemory
frame_refusal_outcome (frame.Make at entry.Memory) = outcome.NoMemory
frame_refusal_outcome (frame.Check refusal.IndexMemory) = outcome.NoMemory
frame_refusal_outcome r = outcome.Refused

-- the outcome of a line, where `refused` is what a refusal comes to
abbrev pub answer_outcome : {R : Type 0} → (R → Outcome) → Answer R → Outcome
answer_outcome refused (Judged (Ok y)) = outcome.Accepted
answer_outcome refused (Judged (Err why)) = refused why
answer_outcome refused (Timed t) = outcome.Accepted
answer_outcome refused (Slow at) = outcome.Refused
answer_outcome refused Unread = outcome.Unread
answer_outcome refused NoMemory = outcome.NoMemory

-- the answer is that the frame or the recipe could not be read
abbrev pub is_unread : {R : Type 0} → Answer R → Bool
is_unread Unread = true
is_unread answer = false

-- the worse of two outcomes
abbrev pub worse : Outcome → Outcome → Outcome
worse outcome.Unread b = outcome.Unread
worse a outcome.Unread = outcome.Unread
worse outcome.NoMemory b = outcome.NoMemory
worse a outcome.NoMemory = outcome.NoMemory
worse outcome.Refused b = outcome.Refused
worse a b = b
