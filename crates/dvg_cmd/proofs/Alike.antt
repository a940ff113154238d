-- Judges that say the same.
use Rattle.dvg_cmd.proofs.Common.{ℕ, List, Option, None, Some, IfSome, FrameAnswer, Judged, Judging, AnswersFrame, FrameDetail}
use Rattle.dvg_cmd.specs.Frames.{AnswerMeans, JudgesAlike, Slow, Timed, Unread, refusal_in}
use Rattle.dvg_spelling.specs.declared.answer.Answer.TheVariants.{NoMemory}
use Rattle.dvg_cmd.specs.SeveralFrames.{AnswersOpened, IsLineOfFrame}
use Rattle.dvg_cmd.specs.Telling.{TellsAlike}

if_some : {A : Type 0} (o : Option A) (P Q : A → Type 0) → ((x : A) → P x → Q x) → IfSome o P → IfSome o Q
if_some None P Q step h = tt
if_some (Some x) P Q step h = step x h

module _ (first later : Judging) (alike : JudgesAlike first later) (start : Option ℕ) where
  answer_alike : (frame left : Option (List ℕ)) (answer : FrameAnswer) → AnswersFrame later start frame left answer
      → AnswersFrame first start frame left answer
  answer_alike frame left answer a =
      record {
        bytes = a.bytes;
        answers = said answer a.answers;
        told = if_some (refusal_in answer) (later.is_told a.bytes) (first.is_told a.bytes) (alike.told a.bytes) a.told;
        means = rw (alike.mode, alike.rom, alike.window) at a.means;
      }
    where
      said : (answer : FrameAnswer) → AnswerMeans later.is_answer start frame left a.bytes answer
          → AnswerMeans first.is_answer start frame left a.bytes answer
      said Unread h = h
      said (Judged v) h = (h.0, h.1, alike.answer a.bytes (Judged v) h.2)
      said (Timed t) h = (h.0, h.1, alike.answer a.bytes (Timed t) h.2)
      said (Slow at) h = (h.0, h.1, alike.answer a.bytes (Slow at) h.2)
      said NoMemory h = (h.0, h.1, alike.answer a.bytes NoMemory h.2)

  module _ {R : Type 0} (remaining : R → Option (List ℕ)) (failures : R → ℕ) (detail : FrameDetail) where
    pub lines_alike : TellsAlike (IsLineOfFrame remaining failures first start detail) (IsLineOfFrame remaining failures later start detail)
    lines_alike frame line h = record { name_is = h.name_is; answers = opened frame.reader h.answers; asked = h.asked }
      where
        opened : (reader : Option R) → AnswersOpened remaining failures later start reader line.answer.0
            → AnswersOpened remaining failures first start reader line.answer.0
        opened None h = h
        opened (Some reader) h = (h.0, answer_alike (remaining reader) (remaining h.0) line.answer.0 h.1, h.2)
