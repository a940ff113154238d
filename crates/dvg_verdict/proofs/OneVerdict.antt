-- There is one verdict on bytes.
use Rattle.dvg_verdict.proofs.Common.{List, length, sym, ap, ◌≡◌, ◌∙◌, ℕ, arith, Rom, rom_on, Window, GoodFrame, Err, Ok, Result, Certificate, Spells, ReadAnswer}
use Rattle.dvg_words.specs.declared.machine.Machine.{Machine}
use Rattle.dvg_cert.specs.declared.entry.Entry.{Entry}
use Rattle.dvg_check.specs.declared.fault.Mode.{Mode}
use Rattle.dvg_text.specs.Laws.{OneCertificate, OneAnswer, NotMemory as HasMemory}
use Rattle.dvg_cert.specs.declared.fault.CertFault.{CertFault}
use Rattle.dvg_cert.specs.declared.fault.CertWhy.TheVariants.{Memory}
use Rattle.dvg_check.specs.Verdict.{RangeRefusal, PartsVerdict, RomVerdict}
use Rattle.dvg_verdict.specs.Verdict.{CertVerdict, VerdictOn, NotMemory}
use Rattle.dvg_check.specs.declared.verdict.Refusal.{Refusal}
use Rattle.dvg_check.specs.declared.verdict.Refusal.TheVariants as refusal
use Rattle.dvg_check.specs.declared.verdict.Yes.{Yes}
use Rattle.dvg_check.proofs.Faults.{one_count, one_fault, no_fault, one_shape_fault, no_shape_fault}

-- what is out of range is refused, whatever the certificate
pub out_of_range : (machine : Machine) (mode : Mode) (w : Window) (rom cert words : List ℕ) (budget : ℕ) (r : Refusal)
    → RangeRefusal words budget r → VerdictOn machine mode w rom cert words budget (Err r)
out_of_range machine mode w rom cert words budget r h = grind (arith)

same_yes : (w : Window) (machine : Machine) (words : List ℕ) (list : List Entry) (budget : ℕ) (y z : Yes)
    → GoodFrame w machine words list budget y.words y.depth → GoodFrame w machine words list budget z.words z.depth
    → y.shapes ≡ length list → z.shapes ≡ length list → y ≡ z
same_yes w machine words list budget y z g h p q =
    grind (arith, (one_count w machine words list budget y.words y.depth z.words z.depth g h))

-- the shapes and the frame of one list come to one answer
same_parts : (mode : Mode) (w : Window) (rom : Rom) (list : List Entry) (words : List ℕ) (budget : ℕ) (a b : Result Yes Refusal)
    → PartsVerdict mode w rom list words budget a → PartsVerdict mode w rom list words budget b → NotMemory a → NotMemory b → a ≡ b
same_parts mode w rom list words budget (Ok y) (Ok z) h k m n = ap Ok (same_yes w rom.machine words list budget y z h.1 k.1 h.2 k.2)
same_parts mode w rom list words budget (Ok y) (Err (refusal.Shape g)) h k m n = absurd (no_shape_fault mode w rom list g h.0 k)
same_parts mode w rom list words budget (Ok y) (Err (refusal.Frame g)) h k m n =
    absurd (no_fault w rom.machine words list budget y.words y.depth g h.1 k.1)
same_parts mode w rom list words budget (Err (refusal.Shape f)) (Ok z) h k m n = absurd (no_shape_fault mode w rom list f k.0 h)
same_parts mode w rom list words budget (Err (refusal.Shape f)) (Err (refusal.Shape g)) h k m n =
    ap (λ x. Err (refusal.Shape x)) (one_shape_fault mode w rom list f g h k)
same_parts mode w rom list words budget (Err (refusal.Shape f)) (Err (refusal.Frame g)) h k m n =
    absurd (no_shape_fault mode w rom list f k.0 h)
same_parts mode w rom list words budget (Err (refusal.Frame f)) (Ok z) h k m n =
    absurd (no_fault w rom.machine words list budget z.words z.depth f k.1 h.1)
same_parts mode w rom list words budget (Err (refusal.Frame f)) (Err (refusal.Shape g)) h k m n =
    absurd (no_shape_fault mode w rom list g h.0 k)
same_parts mode w rom list words budget (Err (refusal.Frame f)) (Err (refusal.Frame g)) h k m n =
    ap (λ x. Err (refusal.Frame x)) (one_fault w rom.machine words list budget f g h.1 k.1)
same_parts mode w rom list words budget a b h k m n = grind (arith)

-- a ROM's bytes come to one answer by one certificate
same_rom : (machine : Machine) (mode : Mode) (w : Window) (rom : List ℕ) (c : Certificate) (words : List ℕ) (budget : ℕ)
    (a b : Result Yes Refusal) → RomVerdict machine mode w rom c words budget a → RomVerdict machine mode w rom c words budget b
    → NotMemory a → NotMemory b → a ≡ b
same_rom machine mode w rom c words budget a b h k m n =
    grind (arith, (same_parts mode w (rom_on machine c.map rom) c.entries words budget a b))

module _ (one_certificate : OneCertificate) (one_answer : OneAnswer) (machine : Machine) (mode : Mode) (w : Window)
    (rom cert words : List ℕ) (budget : ℕ) where
  same_lists : (a b : Result Yes Refusal) → CertVerdict machine mode w rom cert words budget a
      → CertVerdict machine mode w rom cert words budget b → NotMemory a → NotMemory b → a ≡ b
  same_lists a b h k m n = grind (arith, same_rom)

  -- a text has one answer
  same_read : (a b : Result Certificate CertFault) → ReadAnswer cert a → ReadAnswer cert b → HasMemory a → HasMemory b → a ≡ b
  same_read a b h k m n = let answer = one_answer cert in answer.3 a h m ∙ sym (answer.3 b k n)

  no_refusal : (f : CertFault) (c : Certificate) → ReadAnswer cert (Err f) → Spells c cert → (f.why ≡ Memory → ⊥) → ⊥
  no_refusal f c h k m = let e = same_read (Ok c) (Err f) k h tt m in cc

  pub same_verdict : (a b : Result Yes Refusal) → VerdictOn machine mode w rom cert words budget a
      → VerdictOn machine mode w rom cert words budget b → NotMemory a → NotMemory b → a ≡ b
  same_verdict (Err (refusal.Cert f)) (Err (refusal.Cert g)) h k m n = let e = same_read (Err f) (Err g) h.1 k.1 m n in cc
  same_verdict (Err (refusal.Cert f)) b h k m n = grind (arith, (no_refusal f))
  same_verdict a (Err (refusal.Cert g)) h k m n = grind (arith, (no_refusal g))
  same_verdict a b h k m n = grind (arith, (same_lists a b))
