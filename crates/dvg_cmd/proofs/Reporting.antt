-- The verdict on what was read is the one on all, and what is reported of it, over plain values.
use Rattle.dvg_cmd.proofs.Common.{IfErr, sym, ap, Option, List, [], None, Some, subst, ◌≡◌, ℕ, Result, IfOk, IfSome, Ok, Err, Machine, words_of, rom_on, Window, Certificate, CertFault, Means, InRange, RomVerdict, Mode, Refusal, Yes, IsPrefix, Judges, ReadsText, arith, Memory, Spells, PrefixRefusal, RangeRefusal, JudgesRom, MeansRead, ◌++◌, OnOk, Appends, TakesOneWrite, Detail, Behind, IsBehind, RunFault, behind_text, outcome_behind, Outcome, Accepted, IsReadFor, outcome_of, Reports, ReportsAccepted}
use Rattle.dvg_verdict.proofs.OneVerdict.{out_of_range}
use Rattle.dvg_verdict.specs.Verdict.{CertVerdict, VerdictOn}
use Rattle.dvg_cmd.proofs.Whole.{held_bytes, held_told, text_of_held, in_range, range_whole, frame_same, rom_same, rom_back, rom_whole, refused_whole}
use Rattle.dvg_spelling.specs.Report.{report_text}
use Rattle.dvg_cmd.specs.SeveralFrames.{ReportsRefusal}
use Rattle.dvg_check.specs.declared.verdict.Refusal.TheVariants as refusal

-- what the ROM and the frame come to by the certificate is the verdict
of_cert : (machine : Machine) (mode : Mode) (w : Window) (rb cb fb : List ℕ) (budget : ℕ) (v : Result Yes Refusal)
    → CertVerdict machine mode w rb cb fb budget v → VerdictOn machine mode w rb cb fb budget v
of_cert machine mode w rb cb fb budget v h = grind (arith)

-- what holds of the memory that was read holds of all
over : (machine : Machine) (P : Yes → Memory → Type 0) (mode : Mode) (w : Window) (budget : ℕ) (v : Result Yes Refusal) (rb fb : List ℕ)
    (c : Certificate) (cert left : Option (List ℕ)) → InRange fb budget → ReadsText cert left (Ok c)
    → RomVerdict machine mode w rb c (words_of fb) budget v
    → IfOk v (λ yes. P yes (record { frame = words_of fb; rom = rom_on machine c.map rb }))
    → (rom frame_held : Option (List ℕ)) → IsPrefix 4097 rom rb → IsPrefix 2049 frame_held fb
    → IfOk v (λ yes. IfSome rom (λ r. IfSome cert
    (λ t. IfSome frame_held (λ f. (d : Certificate) × Spells d t
    × P yes (record { frame = words_of f; rom = rom_on machine d.map r })))))
over machine P mode w budget (Err r) rb fb c cert left range text h holds rom frame_held rom_read frame_read = tt
over machine P mode w budget (Ok y) rb fb c cert left range text h holds None frame_held rom_read frame_read = tt
over machine P mode w budget (Ok y) rb fb c None left range text h holds (Some r) frame_held rom_read frame_read = tt
over machine P mode w budget (Ok y) rb fb c (Some t) left range text h holds (Some r) None rom_read frame_read = tt
over machine P mode w budget (Ok y) rb fb c (Some t) left range text h holds (Some r) (Some f) rom_read frame_read =
    grind (
      arith,
      (rom_same c.map text.is.0.map_is (Some r) rb rom_read h.0),
      (frame_same (Some f) fb frame_read range.frame_length),
      (text_of_held (Some t) left (Ok c) text),
      (words_of f),
      rom_on,
      words_of,
      (rom_on machine c.map rb),
    )

module _ (machine : Machine) (mode : Mode) (w : Window) (budget : ℕ) (rb fb : List ℕ) (rom frame_held : Option (List ℕ))
    (rom_read : IsPrefix 4097 rom rb) (frame_read : IsPrefix 2049 frame_held fb) where
  -- a verdict on what was read of the ROM and of the frame, and on all of the certificate
  judges : (cert : Option (List ℕ)) (cb : List ℕ) (v : Result Yes Refusal)
      → VerdictOn machine mode w (held_bytes rom rb) (held_bytes cert cb) (held_bytes frame_held fb) budget v
      → IfOk v (MeansRead machine mode w rom cert frame_held)
      → Judges machine mode w rom cert frame_held budget v
  judges cert cb v is means = grind (arith, held_bytes, held_told)

  -- out of range: the ROM and the certificate are nothing to the verdict
  pub judges_range : (cert : Option (List ℕ)) (r : Refusal) → RangeRefusal fb budget r
      → Judges machine mode w rom cert frame_held budget (Err r)
  judges_range cert r h =
      judges cert [] (Err r) (out_of_range machine mode w (held_bytes rom rb) (held_bytes cert []) (held_bytes frame_held fb) budget r
      (range_whole frame_held fb frame_read budget r h)) tt

  -- the certificate was refused
  pub judges_refused : PrefixRefusal → (cert left : Option (List ℕ)) (f : CertFault) → InRange fb budget → ReadsText cert left (Err f)
      → Judges machine mode w rom cert frame_held budget (Err (refusal.Cert f))
  judges_refused law cert left f range text =
      judges cert text.bytes (Err (refusal.Cert f)) (
        in_range frame_held fb frame_read budget range,
        refused_whole law text.bytes (held_bytes cert text.bytes) f.line f.why (text_of_held cert left (Err f) text) text.is,
      ) tt

  -- the certificate was taken
  pub judges_cert : (cert left : Option (List ℕ)) (c : Certificate) (v : Result Yes Refusal) → InRange fb budget
      → ReadsText cert left (Ok c) → JudgesRom machine mode w rb c (words_of fb) budget v
      → Judges machine mode w rom cert frame_held budget v
  judges_cert cert left c v range text h =
      judges cert text.bytes v (of_cert machine mode w (held_bytes rom rb) (held_bytes cert text.bytes) (held_bytes frame_held fb) budget
      v (record {
        in_range = in_range frame_held fb frame_read budget range;
        certificate = c;
        spells = subst (λ (x : List ℕ). Spells c x) ((text_of_held cert left (Ok c) text).whole tt) text.is;
        by_it = subst (λ (x : List ℕ). RomVerdict machine mode w (held_bytes rom rb) c (words_of x) budget v)
            (frame_same frame_held fb frame_read range.frame_length)
            (rom_whole machine c rb (held_bytes rom rb) (rom_same c.map text.is.0.map_is rom rb rom_read)
            (rom_back c.map text.is.0.map_is rom rb rom_read) mode w (words_of fb) budget v h.is);
      }))
      (over machine (λ y m. Means mode m w y.words y.depth) mode w budget v rb fb c cert left range text h.is h.means rom frame_held
      rom_read frame_read)

-- ---- what is written of it

-- a refusal is not accepted
accepted_verdict : (what : Behind) (v : Result Yes Refusal) → outcome_behind what (outcome_of v) ≡ Accepted → (y : Yes) × (v ≡ Ok y)
accepted_verdict what v is = grind (arith)

-- what was written of a verdict and behind it is its report, if the detail asks for that
module _ (detail : Detail) (what : Behind) (asked : IsBehind detail what) (v : Result Yes Refusal) (old new : Option (List ℕ)) where
  pub reports : (r : Result Outcome RunFault) (writes writes_after : ℕ) (machine : Machine) (mode : Mode) (w : Window)
      (rom cert left frame : Option (List ℕ)) (budget : ℕ) → Judges machine mode w rom cert frame budget v → IsReadFor v cert left
      → IfOk r (λ outcome. outcome ≡ outcome_behind what (outcome_of v)) → OnOk r (Appends old new (report_text v ++ behind_text what))
      → OnOk r (TakesOneWrite (report_text v ++ behind_text what) writes writes_after)
      → IfOk r (Reports machine detail mode w rom cert left frame budget old new writes writes_after)
  reports r writes writes_after machine mode w rom cert left frame budget judges read is text one = grind (arith)

  -- what holds of an accepted verdict holds of the line that was written
  pub reports_accepted : (r : Result Outcome RunFault) → IfOk r (λ outcome. outcome ≡ outcome_behind what (outcome_of v))
      → OnOk r (Appends old new (report_text v ++ behind_text what)) → r ≡ Ok Accepted
      → (P : Yes → Type 0) → IfOk v P → ReportsAccepted detail old new P
  reports_accepted (Err fault) outcome text is P holds = cc
  reports_accepted (Ok end) outcome text is P holds =
      let accepted : outcome_behind what (outcome_of v) ≡ Accepted = cc in
      let a = accepted_verdict what v accepted in
      search (a.0, what, asked, subst (λ x. Appends old new (report_text x ++ behind_text what)) a.1 text, subst (λ x. IfOk x P) a.1 holds)

-- the report of a certificate's text that is refused
pub refusal_reported : (machine : Machine) (detail : Detail) (w : Window) (rom : List ℕ) (cert : Result Certificate CertFault)
    (f g : CertFault) → cert ≡ Err f → g ≡ f → (what : Behind) → IsBehind detail what → (r : Result Outcome RunFault)
    (old new : Option (List ℕ)) (writes writes_after : ℕ) → IfOk r (λ end. end ≡ outcome_behind what (outcome_of (Err (refusal.Cert g))))
    → OnOk r (Appends old new (report_text (Err (refusal.Cert g)) ++ behind_text what))
    → OnOk r (TakesOneWrite (report_text (Err (refusal.Cert g)) ++ behind_text what) writes writes_after)
    → IfOk r (λ end. IfErr cert (λ fault. ReportsRefusal machine detail w rom cert old new writes writes_after end))
refusal_reported machine detail w rom cert f g is same what asked (Err e) old new writes writes_after outcome text one = tt
refusal_reported machine detail w rom cert f g is same what asked (Ok end) old new writes writes_after outcome text one =
    subst (λ c. IfErr c (λ fault. ReportsRefusal machine detail w rom c old new writes writes_after end)) (sym is) (record {
      refused = refusal.Cert g;
      refuses = ap (λ x. refusal.Cert x) same;
      report = record { behind = what; asked = asked; written = text; one_write = one; outcome_is = outcome };
    })
