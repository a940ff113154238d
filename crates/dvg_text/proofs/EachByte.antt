-- A text is read byte by byte, and has one answer.
use Rattle.dvg_text.proofs.Common.{cases_eq, ne_eqb, ◌≡◌, ◌≢◌, ℕ, ◌+◌, ◌-◌, ◌*◌, ◌<◌, ◌≤◌, List, [], ◌∷◌, ◌++◌, length, inl, inr, true, false, Bool, Result, Ok, Err, if◌then◌else◌, ◌==◌, refl, sym, ap, subst, ◌∙◌, arith, codes, decimal, count_by, cond, flat_map, append_assoc, append-nil, length-append, nat_tests, lit<, each_mid, MemoryMap, asteroids, is_asteroids, LONGEST_LINE, LINE_FEED, Entry, IsCertificate, Certificate, CertWhy, CertFault, After, TooLong, Unended, Memory, first_version_line, second_version_line, rom_line, entry_line, entry_tokens, done_line, ended, begun_with, text_of, Taken, Nothing, Versioned, Begun, Whole, text_taken, line_number, IsTaken, IsUnended, Holds, Meets, StopsAt, IsRefusal, ReadAnswer, Without}
use Rattle.std.proofs.lemmas.List.Sums.{sum_by_push}
use Rattle.dvg_text.proofs.Leading.{Text}
use Rattle.dvg_text.proofs.Graphics.{line_free, graphics_entry, graphic_decimal, Without-append}
use Rattle.dvg_text.proofs.Lengths.{length_entry, length_done}
use Rattle.dvg_text.proofs.FirstLines.{asteroids_is, version_free, rom_free}
use Rattle.dvg_text.proofs.Refusals.{rest_of, rest_free, meets_long}
use Rattle.dvg_text.proofs.NextLine.{next, IsNext, next_is, wrong_next, rom_next, entry_next, done_next}
use Rattle.dvg_text.specs.Laws.{NotMemory}

-- the lines taken and the line begun after an LF, or what is wrong
abbrev pub with_line : Result Taken CertWhy → Result (Taken × Text) CertWhy
with_line (Ok new) = Ok (new, [])
with_line (Err why) = Err why

-- the same after any byte
abbrev pub byte : Taken → Text → ℕ → Result (Taken × Text) CertWhy
byte (Whole map es) rest b = Err After
byte t rest b =
    if b == LINE_FEED then with_line (next t rest) else (if length rest == LONGEST_LINE - 1 then Err TooLong else Ok (t, rest ++ b ∷ []))

-- with its line where a byte cannot come, else what the bytes after it give
abbrev pub then_read : ℕ → Result (Taken × Text) CertWhy → (Taken → Text → Result (Taken × Text) CertFault)
    → Result (Taken × Text) CertFault
then_read line (Ok s) more = more s.0 s.1
then_read line (Err why) more = Err (record { line = line; why = why })

abbrev pub read : Text → Taken → Text → Result (Taken × Text) CertFault
read [] t rest = Ok (t, rest)
read (b ∷ text) t rest = then_read (line_number t) (byte t rest b) (read text)

-- ---- a text that holds is read as what it holds

in_line : (t : Taken) (rest : Text) (b : ℕ) → IsUnended t → (b == LINE_FEED) ≡ false → length rest < LONGEST_LINE - 1
    → byte t rest b ≡ Ok (t, rest ++ b ∷ [])
in_line t rest b u other short = grind (arith, nat_tests)

at_end : (t : Taken) (line : Text) → IsUnended t → byte t line LINE_FEED ≡ with_line (next t line)
at_end t line u = grind (arith)

line_read : (line more begun : Text) (t : Taken) → IsUnended t → Without LINE_FEED line → length begun + length line < LONGEST_LINE
    → read (line ++ more) t begun ≡ read more t (begun ++ line)
line_read [] more begun t u free short = ap (read more t) (sym (append-nil begun))
line_read (b ∷ line) more begun t u free short =
    rw (in_line t begun b u free.0 (omega arith))
    (line_read line more (begun ++ b ∷ []) t u free.1 (omega (arith, length-append begun (b ∷ []))))
    ∙ ap (read more t) (append_assoc begun (b ∷ []) line)

ended_read : (line more : Text) (t new : Taken) → IsUnended t → Without LINE_FEED line → length line < LONGEST_LINE
    → next t line ≡ Ok new → read (ended line ++ more) t [] ≡ read more new []
ended_read line more t new u free short is =
    rw append_assoc (line_read line (LINE_FEED ∷ more) [] t u free (omega arith))
    ∙ ap (λ (r : Result (Taken × Text) CertWhy). then_read (line_number t) r (read more)) (at_end t line u ∙ ap with_line is)

entries_read : (map : MemoryMap) (fs es : List Entry) (more : Text) → IsCertificate map (es ++ fs)
    → read (flat_map (λ e. ended (entry_line e)) fs ++ more) (Begun map es) [] ≡ read more (Begun map (es ++ fs)) []
entries_read map [] es more h = ap (λ (l : List Entry). read more (Begun map l) []) (sym (append-nil es))
entries_read map (f ∷ fs) es more h =
    let fits = each_mid _ es f fs h.each in
    let tail : Text = flat_map (λ e. ended (entry_line e)) fs in
    let one = append_assoc es (f ∷ []) fs in
    ap (λ (x : Text). read x (Begun map es) []) (append_assoc (ended (entry_line f)) tail more)
    ∙ ended_read (entry_line f) (tail ++ more) (Begun map es) (Begun map (es ++ f ∷ [])) tt
    (line_free (entry_tokens f) (graphics_entry map.rom_first map.rom_last f fits))
    (omega (arith, length_entry map.rom_first map.rom_last f fits)) (entry_next map es fs f h)
    ∙ entries_read map fs (es ++ f ∷ []) more (rw one h) ∙ ap (λ (l : List Entry). read more (Begun map l) []) one

begun_read : (here : Bool) (map : MemoryMap) (es : List Entry) (more : Text) → is_asteroids map ≡ here → IsCertificate map es
    → read (begun_with map es ++ more) Nothing [] ≡ read more (Begun map es) []
unfolding begun_with
begun_read true map es more e h =
    let tail : Text = flat_map (λ e. ended (entry_line e)) es ++ more in
    rw e (ended_read first_version_line tail Nothing (Begun asteroids []) tt version_free.0 (omega arith) refl
    ∙ ap (λ (m : MemoryMap). read tail (Begun m []) []) (sym (asteroids_is map e)) ∙ entries_read map es [] more h)
begun_read false map es more e h =
    let tail : Text = flat_map (λ e. ended (entry_line e)) es ++ more in
    rw e (ended_read second_version_line (ended (rom_line map) ++ tail) Nothing Versioned tt version_free.1 (omega arith) refl
    ∙ ended_read (rom_line map) tail Versioned (Begun map []) tt (rom_free map) (omega arith) (rom_next map (h.map_is, e))
    ∙ entries_read map es [] more h)

taken_read : (t : Taken) (more : Text) → IsTaken t → read (text_taken t ++ more) Nothing [] ≡ read more t []
taken_read Nothing more h = refl
taken_read Versioned more h = ended_read second_version_line more Nothing Versioned tt version_free.1 (omega arith) refl
taken_read (Begun map es) more h = begun_read (is_asteroids map) map es more refl h
taken_read (Whole map es) more h =
    let n : ℕ = length es in
    let free = line_free (codes "done" ∷ decimal n ∷ [])
    ((lit< tt, (lit< tt, (lit< tt, (lit< tt, tt)))), (graphic_decimal n (omega (arith, h.few)), tt)) in
    rw append_assoc (begun_read (is_asteroids map) map es (ended (done_line n) ++ more) refl h)
    ∙ ended_read (done_line n) more (Begun map es) (Whole map es) tt free (omega (arith, length_done n h.few)) (done_next map es h)

held_read : (text more : Text) (t : Taken) (rest : Text) → Holds text t rest → read (text ++ more) Nothing [] ≡ read more t rest
held_read text more (Whole map es) rest h =
    ap (λ (x : Text). read (x ++ more) Nothing [])
    (h.parts ∙ ap (λ (x : Text). text_of map es ++ x) h.begun ∙ append-nil (text_of map es)) ∙ taken_read (Whole map es) more h.lines
    ∙ ap (read more (Whole map es)) (sym h.begun)
held_read text more t rest h =
    ap (λ (x : Text). read (x ++ more) Nothing []) h.parts ∙ ap (λ (x : Text). read x Nothing []) (append_assoc (text_taken t) rest more)
    ∙ taken_read t (rest ++ more) h.lines ∙ line_read rest more [] t tt h.begun.0 (omega (arith, h.begun.1))

pub read_held : (text : Text) (t : Taken) (rest : Text) → Holds text t rest → read text Nothing [] ≡ Ok (t, rest)
read_held text t rest h = ap (λ (x : Text). read x Nothing []) (sym (append-nil text)) ∙ held_read text [] t rest h

-- ---- what is read holds, or stops at a byte

meets_is : (t : Taken) (rest : Text) (b : ℕ) (why : CertWhy) → IsTaken t → Meets t rest b why → byte t rest b ≡ Err why
meets_is (Whole map es) rest b why h m = ap Err (sym m)
meets_is t rest b why h (inl m) = grind (arith, nat_tests)
meets_is t rest b why h (inr m) = grind (arith, nat_tests, (wrong_next why t rest h m.1))

pub stuck_read : (text : Text) (line : ℕ) (why : CertWhy) → StopsAt text line why
    → read text Nothing [] ≡ Err (record { line = line; why = why })
stuck_read text line why s = rw (s.5, held_read s.0 (s.1 ∷ s.2) s.3 s.4 s.6, meets_is s.3 s.4 s.1 why s.6.lines s.7, s.8) refl

-- the line ends of a text
abbrev ends_in : Text → ℕ
ends_in text = count_by (λ b. b == LINE_FEED) text

ends_push : (text : Text) (b : ℕ) → ends_in (text ++ b ∷ []) ≡ ends_in text + cond (b == LINE_FEED) 1 0
ends_push text b = sum_by_push (λ x. cond (x == LINE_FEED) 1 0) text b

-- a text that holds, with the number of its lines and a bound of its length
pub record Kept (text : Text) (t : Taken) (rest : Text) : Type 0 where
  pub holds : Holds text t rest
  pub ends : line_number t ≡ ends_in text + 1
  pub short : length text + LONGEST_LINE ≤ LONGEST_LINE * line_number t + length rest

abbrev ByteIs : Text → Taken → Text → ℕ → Result (Taken × Text) CertWhy → Type 0
ByteIs text t rest b (Ok s) = Kept (text ++ b ∷ []) s.0 s.1
ByteIs text t rest b (Err why) = Meets t rest b why

line_is : (r : Result Taken CertWhy) (text : Text) (t : Taken) (rest : Text) → IsUnended t → Kept text t rest → IsNext t rest r
    → ByteIs text t rest LINE_FEED (with_line r)
line_is (Ok new) text t rest u k n = record {
  holds = record { parts = ap (λ (x : Text). x ++ LINE_FEED ∷ []) k.holds.parts ∙ rw n.2 (simp append_assoc); lines = n.0; begun = n.1 };
  ends = omega (arith, k.ends, n.3, ends_push text LINE_FEED);
  short = omega (arith, k.short, n.3, length-append text (LINE_FEED ∷ []), (rest_free t rest k.holds.begun).1);
}
line_is (Err why) text t rest u k n = grind (arith)

more_is : (text : Text) (t : Taken) (rest : Text) (b : ℕ) → IsUnended t → b ≢ LINE_FEED → length rest ≢ LONGEST_LINE - 1
    → Kept text t rest → Kept (text ++ b ∷ []) t (rest ++ b ∷ [])
more_is text t rest b u other room k =
    let s = rest_free t rest k.holds.begun in
    let more = length-append rest (b ∷ []) in
    let free = Without-append LINE_FEED rest (b ∷ []) s.0 (ne_eqb b LINE_FEED other, tt) in record {
      holds = record {
        parts = ap (λ (x : Text). x ++ b ∷ []) k.holds.parts ∙ append_assoc (text_taken t) rest (b ∷ []);
        lines =
            k.holds.lines;
        begun = rest_of t (rest ++ b ∷ []) u free (omega (arith, s.1, room, more));
      };
      ends = k.ends ∙ rw (ends_push text b, ne_eqb b LINE_FEED other) (omega arith);
      short = omega (arith, k.short, more, length-append text (b ∷ []));
    }

unended_is : (text : Text) (t : Taken) (rest : Text) (b : ℕ) → IsUnended t → Kept text t rest → ByteIs text t rest b (byte t rest b)
unended_is text t rest b u k =
    elim (cases_eq b LINE_FEED) [
      | inl lf ↦ rw (lf, at_end t rest u) (line_is (next t rest) text t rest u k (next_is t rest k.holds.lines u))
      | inr other ↦ elim (cases_eq (length rest) (LONGEST_LINE - 1)) [
        | inl full ↦ let m = meets_long t rest b u other full in rw (meets_is t rest b TooLong k.holds.lines m) m
        | inr room ↦ rw (in_line t rest b u (ne_eqb b LINE_FEED other) (omega (arith, room, (rest_free t rest k.holds.begun).1)))
            (more_is text t rest b u other room k)
      ]
    ]

byte_is : (text : Text) (t : Taken) (rest : Text) (b : ℕ) → Kept text t rest → ByteIs text t rest b (byte t rest b)
byte_is text (Whole map es) rest b k = refl
byte_is text t rest b k = unended_is text t rest b tt k

abbrev pub ReadIs : Text → Result (Taken × Text) CertFault → Type 0
ReadIs text (Ok s) = Kept text s.0 s.1
ReadIs text (Err f) = StopsAt text f.line f.why

then_is : (r : Result (Taken × Text) CertWhy) (before text : Text) (t : Taken) (rest : Text) (b : ℕ) → Kept before t rest
    → ByteIs before t rest b r
    → ((u : Taken) (new : Text) → Kept (before ++ b ∷ []) u new → ReadIs ((before ++ b ∷ []) ++ text) (read text u new))
    → ReadIs (before ++ b ∷ text) (then_read (line_number t) r (read text))
then_is (Ok s) before text t rest b k n more = rw append_assoc at (more s.0 s.1 n)
then_is (Err why) before text t rest b k n more = (before, b, text, t, rest, refl, k.holds, n, refl)

read_is : (text before : Text) (t : Taken) (rest : Text) → Kept before t rest → ReadIs (before ++ text) (read text t rest)
read_is [] before t rest k = rw append-nil k
read_is (b ∷ text) before t rest k =
    then_is (byte t rest b) before text t rest b k (byte_is before t rest b k) (read_is text (before ++ b ∷ []))

pub whole_read : (text : Text) → ReadIs text (read text Nothing [])
whole_read text =
    read_is text [] Nothing [] (record
    { holds = record { parts = refl; lines = tt; begun = (tt, omega arith) }; ends = refl; short = omega arith })

pub kept : (text : Text) (t : Taken) (rest : Text) → Holds text t rest → Kept text t rest
kept text t rest h = subst (ReadIs text) (read_held text t rest h) (whole_read text)

-- ---- the answer

abbrev pub answer : Result (Taken × Text) CertFault → Result Certificate CertFault
answer (Ok (Whole map es, rest)) = Ok (record { map = map; entries = es })
answer (Ok (t, rest)) = Err (record { line = line_number t; why = Unended })
answer (Err f) = Err f

never_met : (why : CertWhy) (t : Taken) (rest : Text) (b : ℕ) → Meets t rest b why → (why ≢ Memory) × (why ≢ Unended)
never_met why t rest b m = grind (arith)

stuck_refusal : (why : CertWhy) (text : Text) (line : ℕ) → StopsAt text line why → IsRefusal text line why × (why ≢ Memory)
stuck_refusal why text line s = grind (arith, never_met)

-- it is an answer, and each is that
pub answer_is : (r : Result (Taken × Text) CertFault) (text : Text) → ReadIs text r → ReadAnswer text (answer r) × NotMemory (answer r)
answer_is (Ok (Whole map es, rest)) text k =
    let none : rest ≡ [] =
    k.holds.begun in ((k.holds.lines, k.holds.parts ∙ ap (λ (x : Text). text_of map es ++ x) none ∙ append-nil (text_of map es)), tt)
answer_is (Ok (t, rest)) text k = ((t, rest, k.holds, tt, refl), λ e. absurd cc)
answer_is (Err f) text s = stuck_refusal f.why text f.line s

fault_is : (why : CertWhy) (text : Text) (line : ℕ) → IsRefusal text line why → why ≢ Memory
    → answer (read text Nothing []) ≡ Err (record { line = line; why = why })
fault_is Memory text line h n = absurd (n refl)
fault_is Unended text line h n = grind (arith, (read_held text h.0 h.1 h.2))
fault_is why text line h n = ap answer (stuck_read text line why h)

pub one_answer : (text : Text) (a : Result Certificate CertFault) → ReadAnswer text a → NotMemory a → answer (read text Nothing []) ≡ a
one_answer text (Ok c) h n =
    ap answer (read_held text (Whole c.map c.entries) []
    (record { parts = h.1 ∙ sym (append-nil (text_of c.map c.entries)); lines = h.0; begun = refl }))
one_answer text (Err f) h n = fault_is f.why text f.line h n
