-- What a run says of the bytes that its readers held, and what it writes. All of it is this project's own.
use Rattle.std.specs.Prelude.{◌≡◌, ◌≢◌, ◌<◌, ◌≤◌, ◌==◌, ℕ, Bool, false, List, ◌++◌, length, Option, IfSome, Result, Ok, Err, IfOk, IfErr, OnOk}
use Rattle.std.specs.Io.KnownBytes.{Appends, Consumes, IsAtEnd}
use Rattle.dvg_words.specs.declared.machine.Machine.{Machine}
use Rattle.dvg_words.specs.Values.{Window}
use Rattle.dvg_text.specs.Devices.{AppendsPrefix, TakesOneWrite, count_after}
use Rattle.dvg_cert.specs.declared.fault.CertWhy.TheVariants.{Unended}
use Rattle.dvg_cert.specs.declared.fault.CertFault.{CertFault}
use Rattle.dvg_cert.specs.Order.{Certificate}
use Rattle.dvg_text.specs.Reading.{ReadAnswer}
use Rattle.dvg_check.specs.declared.verdict.Yes.{Yes}
use Rattle.dvg_check.specs.declared.verdict.Refusal.{Refusal}
use Rattle.dvg_check.specs.declared.verdict.Refusal.TheVariants as refusal
use Rattle.dvg_check.specs.declared.fault.Mode.{Mode}
use Rattle.dvg_verdict.specs.Verdict.{VerdictOn, MeansOn}
use Rattle.dvg_spelling.specs.Report.{report_text}
pub use Rattle.dvg_spelling.specs.declared.outcome.Outcome.{Outcome}
pub use Rattle.dvg_spelling.specs.declared.outcome.Outcome.TheVariants.{Accepted, Refused, NoMemory}
pub use Rattle.dvg_spelling.specs.declared.fault.RunFault.{RunFault}
pub use Rattle.dvg_spelling.specs.Outcomes.{outcome_of}
use Rattle.dvg_spelling.specs.Faults.{run_number}
use Rattle.dvg_spelling.specs.declared.fault.RunFault.TheVariants as fault
use Rattle.dvg_cmd.specs.Detail.{Detail, Behind, IsBehind, behind_text, outcome_behind}

-- ---- which device an answer blames

-- the answer is this fault
abbrev pub blames : {A : Type 0} → RunFault → Result A RunFault → Bool
blames blamed (Ok answer) = false
blames blamed (Err f) = run_number f == run_number blamed

-- the answer is that the writer failed
abbrev pub blames_writer : {A : Type 0} → Result A RunFault → Bool
blames_writer answer = blames fault.Write answer

-- a fault of 70 to 73 comes exactly where its device failed in the run, and the device's count of failed calls then rises by one; 74
-- never comes, and no recipe is read
pub record CountsFaults
    {A : Type 0} (answer : Result A RunFault) (rom rom_after cert cert_after frame frame_after out out_after : ℕ) : Type 0 where
  pub rom_count : rom_after ≡ count_after (blames fault.ReadRom answer) rom
  pub cert_count : cert_after ≡ count_after (blames fault.ReadCert answer) cert
  pub frame_count : frame_after ≡ count_after (blames fault.ReadFrame answer) frame
  pub out_count : out_after ≡ count_after (blames fault.Write answer) out
  pub no_memory : answer ≢ Err fault.Memory
  pub no_recipe : answer ≢ Err fault.ReadRecipe

-- ---- how far inputs are read

-- how many bytes are read at most, one past what is allowed: of a ROM
abbrev pub MOST_ROM_READ : ℕ
MOST_ROM_READ = 4097

-- of a frame
abbrev pub MOST_FRAME_READ : ℕ
MOST_FRAME_READ = 2049

-- of a certificate
abbrev pub MOST_TEXT_READ : ℕ
MOST_TEXT_READ = 1048577

-- a reader was read to its end, or so many bytes of it, and no further
pub record IsReadTo (most : ℕ) (old new : Option (List ℕ)) : Type 0 where
  pub bytes : List ℕ
  pub read : Consumes old new bytes
  pub few : length bytes ≤ most
  pub end : length bytes < most → IsAtEnd new

-- with an outcome a ROM and a frame were read to their end or to one byte past their limit, and after a failed read no later device
-- is touched: the readers of the frame and of a certificate, in this order, and the writer
pub record ReadsInOrder
    {A F C W : Type 0} (answer : Result A RunFault) (rom rom_left held left : Option (List ℕ)) (frame frame_after : F)
    (cert cert_after : C) (out out_after : W) : Type 0 where
  pub rom_read : OnOk answer (IsReadTo MOST_ROM_READ rom rom_left)
  pub frame_read : OnOk answer (IsReadTo MOST_FRAME_READ held left)
  pub frame_unread : answer ≡ Err fault.ReadRom → frame_after ≡ frame
  pub cert_unread : IfErr answer (λ f. f ≢ fault.ReadCert → f ≢ fault.Write → cert_after ≡ cert)
  pub nothing : IfErr answer (λ f. f ≢ fault.Write → out_after ≡ out)

-- the answer to a text can't be known before its end
abbrev pub NeedsEnd : Result Certificate CertFault → Type 0
NeedsEnd (Ok c) = Unit {0}
NeedsEnd (Err f) = f.why ≡ Unended

-- what was read of a text has this answer, and was all of it where the answer needs the end
pub record ReadsText (old new : Option (List ℕ)) (answer : Result Certificate CertFault) : Type 0 where
  pub bytes : List ℕ
  pub read : Consumes old new bytes
  pub few : length bytes ≤ MOST_TEXT_READ
  pub is : ReadAnswer bytes answer
  pub end : NeedsEnd answer → IsAtEnd new

-- the certificate was read to its end or to one byte past its limit, or so far that its own refusal was known
abbrev pub IsReadFor : Result Yes Refusal → Option (List ℕ) → Option (List ℕ) → Type 0
IsReadFor (Err (refusal.Cert f)) old new = ReadsText old new (Err f)
IsReadFor verdict old new = IsReadTo MOST_TEXT_READ old new

-- ---- what is written

-- all that a yes means holds of all bytes that three readers held, with these counts, if all of them are known
abbrev pub MeansRead : Machine → Mode → Window → Option (List ℕ) → Option (List ℕ) → Option (List ℕ) → Yes → Type 0
MeansRead machine mode w rom cert frame y =
    IfSome rom (λ r. IfSome cert (λ c. IfSome frame (λ f. MeansOn machine mode w r c f y.words y.depth)))

-- the verdict on all bytes that three readers held, on a machine, in a mode and for a window; if the bytes of a reader are not known,
-- some bytes. An accepted frame is safe.
pub record Judges
    (machine : Machine) (mode : Mode) (w : Window) (rom cert frame : Option (List ℕ)) (budget : ℕ)
    (verdict : Result Yes Refusal) : Type 0 where
  pub rom_bytes : List ℕ
  pub cert_bytes : List ℕ
  pub frame_bytes : List ℕ
  pub rom_held : IfSome rom (λ held. rom_bytes ≡ held)
  pub cert_held : IfSome cert (λ held. cert_bytes ≡ held)
  pub frame_held : IfSome frame (λ held. frame_bytes ≡ held)
  pub is : VerdictOn machine mode w rom_bytes cert_bytes frame_bytes budget verdict
  pub means : IfOk verdict (MeansRead machine mode w rom cert frame)

-- the report of a verdict and what the detail asks for behind it were written, by one write if they fit one, and nothing else;
-- `writes` and `writes_after` count the writes that took their whole piece
pub record WritesReport
    (detail : Detail) (verdict : Result Yes Refusal) (old new : Option (List ℕ)) (writes writes_after : ℕ)
    (outcome : Outcome) : Type 0 where
  pub behind : Behind
  pub asked : IsBehind detail behind
  pub written : Appends old new (report_text verdict ++ behind_text behind)
  pub one_write : TakesOneWrite (report_text verdict ++ behind_text behind) writes writes_after
  pub outcome_is : outcome ≡ outcome_behind behind (outcome_of verdict)

-- a prefix of them was written, and nothing else
pub record WritesReportPrefix (detail : Detail) (verdict : Result Yes Refusal) (old new : Option (List ℕ)) : Type 0 where
  pub behind : Behind
  pub asked : IsBehind detail behind
  pub written : AppendsPrefix old new (report_text verdict ++ behind_text behind)

-- the report of the verdict on all bytes that three readers held was written; the certificate's reader still holds `left`. An
-- accepted frame is safe, also if there was no memory for its account.
pub record Reports
    (machine : Machine) (detail : Detail) (mode : Mode) (w : Window) (rom cert left frame : Option (List ℕ)) (budget : ℕ)
    (old new : Option (List ℕ)) (writes writes_after : ℕ) (outcome : Outcome) : Type 0 where
  pub verdict : Result Yes Refusal
  pub judges : Judges machine mode w rom cert frame budget verdict
  pub read : IsReadFor verdict cert left
  pub report : WritesReport detail verdict old new writes writes_after outcome

-- a prefix of that report was written
pub record ReportsPrefix
    (machine : Machine) (detail : Detail) (mode : Mode) (w : Window) (rom cert frame : Option (List ℕ)) (budget : ℕ)
    (old new : Option (List ℕ)) : Type 0 where
  pub verdict : Result Yes Refusal
  pub judges : Judges machine mode w rom cert frame budget verdict
  pub report : WritesReportPrefix detail verdict old new

-- an accepted line was written, and P holds of its counts
pub record ReportsAccepted (detail : Detail) (old new : Option (List ℕ)) (P : Yes → Type 0) : Type 0 where
  pub yes : Yes
  pub behind : Behind
  pub asked : IsBehind detail behind
  pub written : Appends old new (report_text (Ok yes) ++ behind_text behind)
  pub holds : P yes
