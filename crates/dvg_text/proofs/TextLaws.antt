-- The laws of texts.
use Rattle.dvg_text.proofs.Common.{◌≡◌, ◌≢◌, ℕ, List, ◌++◌, ◌∷◌, [], Result, Ok, Err, refl, ap, sym, subst, ◌∙◌, append_assoc, arith, CertWhy, Unended, Memory, CertFault, begun_with, text_of, Certificate, Taken, Nothing, MayStand, IsRefusal, StopsAt, ReadAnswer}
use Rattle.dvg_text.specs.Laws.{NotMemory, OneText, OneCertificate, OneAnswer, ReadBack, OpenAnswer, OpenPrefix, ShortText}
use Rattle.dvg_text.proofs.FirstLines.{few_heads}
use Rattle.dvg_text.proofs.EachByte.{read, read_held, ReadIs, whole_read, kept, stuck_read, answer, answer_is, one_answer}

-- two answers that are not out of memory are one
pub answers_once : (text : List ℕ) (a b : Result Certificate CertFault) → ReadAnswer text a → NotMemory a → ReadAnswer text b
    → NotMemory b → a ≡ b
answers_once text a b h n k m = sym (one_answer text a h n) ∙ one_answer text b k m

pub one_text : OneText
one_text c h = (text_of c.map c.entries, (h, refl), λ other k. k.1)

pub one_certificate : OneCertificate
one_certificate c d text h k = let same = answers_once text (Ok c) (Ok d) h tt k tt in cc

pub each_answer : OneAnswer
each_answer text =
    let a = answer_is (read text Nothing []) text (whole_read text) in
    (answer (read text Nothing []), a.0, a.1, λ other h n. sym (one_answer text other h n))

pub read_back : ReadBack
read_back c text a spelled h n = answers_once text a (Ok c) h n spelled tt

pub open_answer : OpenAnswer
open_answer text f h k n = grind (arith, (read_held text h.0 h.1 h.2), (one_answer text (Err f) k n))

-- the only refusal of a text that may stand, its end aside
pub only_memory : (why : CertWhy) (text : List ℕ) (line : ℕ) → IsRefusal text line why → why ≢ Unended → MayStand text → why ≡ Memory
only_memory Memory text line h n m = refl
only_memory why text line h n m = absurd (n (open_answer text (record { line = line; why = why }) m h (λ e. absurd cc)))

-- a byte that cannot come stays where it is
stuck_stays : (prefix after : List ℕ) (line : ℕ) (why : CertWhy) → StopsAt prefix line why → StopsAt (prefix ++ after) line why
stuck_stays prefix after line why s =
    (s.0, s.1, s.2 ++ after, s.3, s.4, ap (λ (x : List ℕ). x ++ after) s.5 ∙ append_assoc s.0 (s.1 ∷ s.2) after, s.6, s.7, s.8)

-- a refusal stays where it is, its end aside
pub refusal_stays : (why : CertWhy) (prefix after : List ℕ) (line : ℕ) → IsRefusal prefix line why → why ≢ Unended
    → IsRefusal (prefix ++ after) line why
refusal_stays Memory prefix after line h n = grind (arith, (append_assoc (begun_with h.0 h.1) h.2 after), (begun_with h.0 h.1))
refusal_stays Unended prefix after line h n = absurd (n refl)
refusal_stays why prefix after line h n = stuck_stays prefix after line why h

pub open_prefix : OpenPrefix
open_prefix prefix after h = by (read prefix Nothing []) (whole_read prefix)
  where
    by : (r : Result (Taken × List ℕ) CertFault) → ReadIs prefix r → MayStand prefix
    by (Ok s) k = (s.0, s.1, k.holds)
    by (Err f) s =
        let e = sym (stuck_read (prefix ++ after) f.line f.why (stuck_stays prefix after f.line f.why s))
        ∙ read_held (prefix ++ after) h.0 h.1 h.2 in absurd cc

pub short_text : ShortText
short_text text h = grind (arith, (kept text h.0 h.1 h.2), few_heads)

-- a text that is refused for its end may stand
pub open_end : (text : List ℕ) (f : CertFault) → ReadAnswer text (Err f) → f.why ≡ Unended → MayStand text
open_end text f h e = let o = subst (IsRefusal text f.line) e h in (o.0, o.1, o.2)
