-- Lines that are sent one after another, over plain values.
use Rattle.dvg_cmd.proofs.Common.{take, length-append, take-append-le, Appends-trans, TakeOneWriteEach, take-append-add, ◌≡◌, ℕ, ◌+◌, ◌<◌, List, [], ◌∷◌, ◌++◌, length, drop, get_or, Option, refl, sym, ap, ◌∙◌, subst, arith, append-nil, append_assoc, Result, Ok, Err, OnErr, OnOk, true, count_after, Appends, AppendsPrefix, TakesOneWrite, of_each, joined, rules, common_steps, drop-cons}
use Rattle.std.specs.Result.{IsErr, is_err}
use Rattle.dvg_cmd.specs.Sent.{Sent, Writes}

pub on_err : {A E P : Type 0} (r : Result A E) → P → OnErr r P
on_err r p = grind (arith)

pub joined_on : (texts more : List (List ℕ)) → joined (texts ++ more) ≡ joined texts ++ joined more
joined_on [] more = refl
joined_on (text ∷ texts) more = ap (λ (t : List ℕ). text ++ t) (joined_on texts more) ∙ sym (append_assoc text (joined texts) (joined more))

pub one_write_on : (texts more : List (List ℕ)) (old mid new : ℕ) → TakeOneWriteEach texts old mid → TakeOneWriteEach more mid new
    → TakeOneWriteEach (texts ++ more) old new
one_write_on [] more old mid new h one = subst (λ n. TakeOneWriteEach more n new) h one
one_write_on (text ∷ texts) more old mid new h one = (h.0, h.1, one_write_on texts more h.0 mid new h.2 one)

-- two runs of lines, one after the other
module _ (lines more : List (List ℕ)) (old mid new : Option (List ℕ)) (writes writes_mid writes_after : ℕ)
    (h : Sent lines old mid writes writes_mid) where
  pub both_sent : Sent more mid new writes_mid writes_after → Sent (lines ++ more) old new writes writes_after
  both_sent k =
      grind (
        arith,
        rules,
        common_steps,
        (joined_on lines more),
        (joined lines),
        (joined more),
        (one_write_on lines more writes writes_mid writes_after h.one_write k.one_write),
        joined_on,
        joined,
        one_write_on,
      )

  pub both_cut : AppendsPrefix mid new (joined more) → AppendsPrefix old new (joined (lines ++ more))
  both_cut k =
      let both : take (length (joined lines) + k.0) (joined (lines ++ more)) ≡ joined lines ++ take k.0 (joined more) =
      ap (take (length (joined lines) + k.0)) (joined_on lines more) ∙ take-append-add (joined lines) (joined more) k.0 in
      let size : length (joined (lines ++ more)) ≡ length (joined lines) + length (joined more) =
      ap length (joined_on lines more) ∙ length-append (joined lines) (joined more) in (
        length (joined lines) + k.0,
        omega (arith, size, k.1),
        subst (λ t. Appends old new t) (sym both) (Appends-trans old mid new (joined lines) (take k.0 (joined more)) h.written k.2),
      )

pub first_cut : (lines more : List (List ℕ)) (old new : Option (List ℕ)) → AppendsPrefix old new (joined lines)
    → AppendsPrefix old new (joined (lines ++ more))
first_cut lines more old new h = subst (AppendsPrefix old new) (sym (joined_on lines more)) (grind (arith, length-append, take-append-le))

module _ {W : Type 0} {contents : W → Option (List ℕ)} {whole_writes failures : W → ℕ} {A E B F : Type 0} where
  -- lines were written, and then more, or a prefix of these
  pub then : {old mid new : W} {lines more : List (List ℕ)} {a : A}
      → Writes {E = E} contents whole_writes failures old mid (Ok a) lines
      → {r : Result B F} → Writes contents whole_writes failures mid new r more
      → Writes contents whole_writes failures old new r (lines ++ more)
  then {lines = lines} {more = more} h {r = Ok b} k =
      record { sent = both_sent lines more _ _ _ _ _ _ h.sent k.sent; prefix = tt; count = k.count ∙ h.count }
  then {mid = mid} {lines = lines} {more = more} h {r = Err e} k =
      record {
        sent = tt;
        prefix = both_cut lines more _ _ _ _ _ (whole_writes mid) h.sent k.prefix;
        count = k.count ∙ ap (count_after true) h.count;
      }

  -- no more was written than a prefix of these lines
  pub cut_in : {old new : W} {lines : List (List ℕ)} {e : E} → Writes {A = A} contents whole_writes failures old new (Err e) lines
      → (more : List (List ℕ)) {r : Result B F} → IsErr r → Writes contents whole_writes failures old new r (lines ++ more)
  cut_in h more {r = Ok b} is = grind (arith, is)
  cut_in {lines = lines} h more {r = Err e} is = record { sent = tt; prefix = first_cut lines more _ _ h.prefix; count = h.count }

-- one line was written by one write, or a prefix of it
module _ {W A E : Type 0} {contents : W → Option (List ℕ)} {whole_writes failures : W → ℕ} {old new : W} {text line : List ℕ} where
  pub one_line : (r : Result A E) → text ≡ line → 0 < length line → OnOk r (Appends (contents old) (contents new) text)
      → OnErr r (AppendsPrefix (contents old) (contents new) text)
      → (0 < length text → OnOk r (TakesOneWrite text (whole_writes old) (whole_writes new)))
      → failures new ≡ count_after (is_err r) (failures old) → Writes contents whole_writes failures old new r (line ∷ [])
  one_line r is some written prefix one count = grind (arith, rules, append-nil, joined)

module _ {W : Type 0} (contents : W → Option (List ℕ)) (whole_writes failures : W → ℕ) (all : List (List ℕ)) (old : W) where
  -- of all lines these are left, and those before them were written
  pub record WritesTo (E : Type 0) (left : List (List ℕ)) (mid : W) : Type 0 where
    pub done : List (List ℕ)
    pub written : Writes {A = Unit {0}} {E = E} contents whole_writes failures old mid (Ok tt) done
    pub whole : done ++ left ≡ all

module _ {W E : Type 0} {contents : W → Option (List ℕ)} {whole_writes failures : W → ℕ} {all : List (List ℕ)} {old mid : W}
    {left : List (List ℕ)} (h : WritesTo contents whole_writes failures all old E left mid) where
  -- none is left
  pub all_written : left ≡ [] → Writes {A = Unit {0}} {E = E} contents whole_writes failures old mid (Ok tt) all
  all_written none =
      subst (λ ls. Writes {A = Unit {0}} {E = E} contents whole_writes failures old mid (Ok tt) ls)
      (sym (append-nil h.done) ∙ ap (λ ls. h.done ++ ls) (sym none) ∙ h.whole) h.written

  module _ {line : List ℕ} {rest : List (List ℕ)} (next : left ≡ line ∷ rest) where
    whole_then : (h.done ++ line ∷ []) ++ rest ≡ all
    whole_then = append_assoc h.done (line ∷ []) rest ∙ ap (λ ls. h.done ++ ls) (sym next) ∙ h.whole

    -- the next was written
    pub line_written : {new : W} → Writes {A = Unit {0}} {E = E} contents whole_writes failures mid new (Ok tt) (line ∷ [])
        → WritesTo contents whole_writes failures all old E rest new
    line_written k = record { done = h.done ++ line ∷ []; written = then h.written k; whole = whole_then }

    -- a prefix of it
    pub line_cut : {A F : Type 0} {e : F} {new : W} → Writes {A = A} contents whole_writes failures mid new (Err e) (line ∷ [])
        → {r : Result (Unit {0}) E} → IsErr r → Writes contents whole_writes failures old new r all
    line_cut {new = new} k {r = r} is =
        subst (λ ls. Writes contents whole_writes failures old new r ls) whole_then (cut_in (then h.written k) rest is)

-- ---- the lines of things, each by one of these texts

module _ {A : Type 0} (line_of : A → List ℕ) (things : List A) (n : ℕ) where
  pub next_line : (thing : A) → thing ≡ get_or things n thing → n < length things
      → of_each line_of (drop n things) ≡ line_of thing ∷ of_each line_of (drop (n + 1) things)
  next_line thing is lt = grind (arith, of_each, drop-cons)
