-- What a run of the maker says of what it makes, and of why it makes nothing, and what is written of it. All of it is this project's own.
use Rattle.std.specs.Prelude.{◌≡◌, ℕ, List, ◌++◌, length, Option, None, Result, Ok, Err}
use Rattle.std.specs.Io.KnownBytes.{Appends}
use Rattle.dvg_words.specs.declared.machine.Machine.{Machine}
use Rattle.dvg_words.specs.Values.{MemoryMap}
use Rattle.dvg_cert.specs.declared.entry.Entry.{Entry}
use Rattle.dvg_cert.specs.declared.entry.Key.{Key}
use Rattle.dvg_text.specs.Devices.{TakesOneWrite}
use Rattle.dvg_spelling.specs.Messages.{make_line_text}
use Rattle.dvg_spelling.specs.Faults.{frame_blamed}
use Rattle.dvg_cmd.specs.Detail.{behind_text, outcome_behind}
use Rattle.dvg_cmd.specs.declared.explaining_make.MakeAnswer.{MakeAnswer}
use Rattle.dvg_cmd.specs.MakingFrames.{MakeRunFault, MakesForFrames}
use Rattle.dvg_cmd.specs.Runs.{Outcome, Accepted, Refused}

-- the list that is made for all bytes that readers held, of a ROM at this map and of frames, has so many entries
pub record MakesEntries
    (machine : Machine) (rom : Option (List ℕ)) (map : MemoryMap) (roots : List (ℕ × Key)) (frames : List (Option (List ℕ)))
    (count : ℕ) : Type 0 where
  pub list : List Entry
  pub made : MakesForFrames machine rom map roots frames list
  pub count_is : count ≡ length list

-- what the line reports
abbrev pub make_outcome_of : Result ℕ MakeRunFault → Outcome
make_outcome_of (Ok entries) = Accepted
make_outcome_of (Err fault) = Refused

-- the frame to blame, if one is
abbrev pub frame_to_blame : Result ℕ MakeRunFault → Option ℕ
frame_to_blame (Ok entries) = None
frame_to_blame (Err fault) = frame_blamed fault

-- what is written of an answer, behind the name of the frame to blame: its line, and an account or that there was no memory for one
abbrev pub make_text : List ℕ → MakeAnswer → List ℕ
make_text name answer = name ++ make_line_text answer.made ++ behind_text answer.behind

-- it was written, by one write if it fits one, and nothing else; the outcome is the line's, or that there was no memory for the account
pub record MakeExplained
    (name : List ℕ) (answer : MakeAnswer) (old new : Option (List ℕ)) (writes writes_after : ℕ) (outcome : Outcome) : Type 0 where
  pub written : Appends old new (make_text name answer)
  pub one_write : TakesOneWrite (make_text name answer) writes writes_after
  pub outcome_is : outcome ≡ outcome_behind answer.behind (make_outcome_of answer.made)
