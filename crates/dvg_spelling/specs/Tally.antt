-- How many lines say what of frames, and the line that tells it. All of it is this project's own.
use Rattle.std.specs.Prelude.{ℕ, zero, suc, ◌+◌, List, [], ◌∷◌, ◌++◌, codes, decimal, replicate, slice_index, slice_set, Err, true}
use Rattle.dvg_text.specs.Devices.{count_after}
use Rattle.dvg_check.specs.Numbers.{refusal_number}
use Rattle.dvg_make.specs.Refusals.{fault_number, make_fault_of}
use Rattle.dvg_make.specs.declared.judging.FrameRefusal.TheVariants.{Make, Check}
use Rattle.dvg_spelling.specs.declared.answer.Answer.TheVariants.{Judged, Slow}
use Rattle.dvg_spelling.specs.declared.outcome.Outcome.{Outcome}
use Rattle.dvg_spelling.specs.declared.outcome.Outcome.TheVariants.{Accepted, Refused, NoMemory, Unread}
use Rattle.dvg_spelling.specs.Outcomes.{FrameAnswer, answer_outcome, frame_refusal_outcome}
pub use Rattle.dvg_spelling.specs.declared.tally.Tally.{Tally}

-- the number of a refusal; 0 if the answer is none
abbrev pub answer_number : FrameAnswer → ℕ
answer_number (Judged (Err (Make at why))) = fault_number (make_fault_of why)
answer_number (Judged (Err (Check r))) = refusal_number r
answer_number (Slow at) = 58
answer_number answer = 0

-- no line
abbrev pub no_lines : Tally
no_lines = record { accepted = 0; refused = replicate 256 0; unread = 0; no_memory = 0 }

-- one line more of this outcome, with this number if it is a refusal; a count stops at the greatest u32
abbrev pub with_outcome : Outcome → ℕ → Tally → Tally
with_outcome Accepted number t = record t { accepted = count_after true t.accepted }
with_outcome Refused number t = record t { refused = slice_set t.refused number (count_after true (slice_index t.refused number)) }
with_outcome NoMemory number t = record t { no_memory = count_after true t.no_memory }
with_outcome Unread number t = record t { unread = count_after true t.unread }

-- one line more of this answer
abbrev pub with_answer : Tally → FrameAnswer → Tally
with_answer t answer = with_outcome (answer_outcome frame_refusal_outcome answer) (answer_number answer) t

-- how many were refused by a number, if any
abbrev pub refused_text : ℕ → ℕ → List ℕ
refused_text number zero = []
refused_text number (suc n) = codes " refused-" ++ decimal number ++ codes "=" ++ decimal (suc n)

-- by this number and those behind it
abbrev pub refused_texts : ℕ → List ℕ → List ℕ
refused_texts number [] = []
refused_texts number (count ∷ counts) = refused_text number count ++ refused_texts (number + 1) counts

-- the whole line
abbrev pub summary_text : Tally → List ℕ
summary_text t =
    codes "accepted=" ++ decimal t.accepted ++ refused_texts 0 t.refused ++ codes " unreadable=" ++ decimal t.unread
    ++ codes " out-of-memory=" ++ decimal t.no_memory ++ codes "\n"
