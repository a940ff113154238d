-- The verdict on the bytes of a ROM, a certificate and a frame, under a budget of words. It is the first that applies of: 2, 49,
-- the certificate's refusal, 1, the first fault of the shapes, the first fault of the frame, accepted. In place of those after 1
-- it may be 50, that there was no memory for the index. All of it is this project's own.
use Rattle.std.specs.Prelude.{◌≢◌, ℕ, List, Result, Err}
use Rattle.dvg_words.specs.Values.{Window}
use Rattle.dvg_words.specs.declared.machine.Machine.{Machine}
use Rattle.dvg_words.specs.declared.machine.Machine.TheVariants.{Profile}
use Rattle.dvg_words.specs.Memory.{words_of}
use Rattle.dvg_words.specs.declared.image.ImageFault.TheVariants.{FrameLength}
use Rattle.dvg_cert.specs.declared.fault.CertWhy.TheVariants as cert_why
use Rattle.dvg_cert.specs.Order.{Certificate}
use Rattle.dvg_text.specs.Grammar.{Spells}
use Rattle.dvg_text.specs.Reading.{ReadAnswer}
use Rattle.dvg_check.specs.declared.fault.Mode.{Mode}
use Rattle.dvg_check.specs.Means.{Means}
use Rattle.dvg_check.specs.declared.verdict.Refusal.TheVariants as refusal
use Rattle.dvg_check.specs.Verdict.{InRange, RangeRefusal, RomVerdict, memory_on}
use Rattle.dvg_check.specs.declared.verdict.Yes.{Yes}
use Rattle.dvg_check.specs.declared.verdict.Refusal.{Refusal}

-- frame and budget are in range; the certificate that the text spells, and the verdict on the ROM and the frame by it
pub record CertVerdict (machine : Machine) (mode : Mode) (w : Window) (rom cert frame : List ℕ) (budget : ℕ)
    (answer : Result Yes Refusal) : Type 0 where
  pub in_range : InRange frame budget
  pub certificate : Certificate
  pub spells : Spells certificate cert
  pub by_it : RomVerdict machine mode w rom certificate (words_of frame) budget answer

-- the verdict on the bytes of a ROM, of a certificate and of a frame: the first refusal that applies, or the counts of what is
-- accepted
abbrev pub VerdictOn : Machine → Mode → Window → List ℕ → List ℕ → List ℕ → ℕ → Result Yes Refusal → Type 0
VerdictOn machine mode w rom cert frame budget (Err (refusal.Image FrameLength)) = RangeRefusal frame budget (refusal.Image FrameLength)
VerdictOn machine mode w rom cert frame budget (Err refusal.BudgetRange) = RangeRefusal frame budget refusal.BudgetRange
VerdictOn machine mode w rom cert frame budget (Err (refusal.Cert f)) = InRange frame budget × ReadAnswer cert (Err f)
VerdictOn machine mode w rom cert frame budget answer = CertVerdict machine mode w rom cert frame budget answer

-- the same on the profile's machine
abbrev pub Verdict : Mode → Window → List ℕ → List ℕ → List ℕ → ℕ → Result Yes Refusal → Type 0
Verdict = VerdictOn Profile

-- what a yes means for these bytes, with the ROM at the map of the certificate that `cert` spells
abbrev pub MeansOn : Machine → Mode → Window → List ℕ → List ℕ → List ℕ → ℕ → ℕ → Type 0
MeansOn machine mode w rom cert frame words depth =
    (c : Certificate) × Spells c cert × Means mode (memory_on machine c.map (words_of frame) rom) w words depth

-- the answer is not that memory was short for the certificate or its index
abbrev pub NotMemory : Result Yes Refusal → Type 0
NotMemory (Err (refusal.Cert f)) = f.why ≢ cert_why.Memory
NotMemory (Err refusal.IndexMemory) = ⊥
NotMemory answer = Unit {0}
