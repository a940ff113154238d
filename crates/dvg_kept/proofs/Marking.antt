-- One mark more, and what follows where the loop over items goes on or ends.
use Rattle.std.specs.Prelude.{◌≡◌, ◌⊎◌, ℕ, zero, suc, ◌+◌, ◌<◌, ◌≤◌, List, [], ◌∷◌, ◌++◌, length, Some, Bool, true, false, Contains, slice_get, slice_set, replicate, refl}
use Rattle.std.proofs.Common.{inl, inr}
use Rattle.dvg_make.proofs.Common.{arith, sym, ap, subst, ◌∙◌, ⊎_elim, Contains-append_cases, Contains-append_left, Contains-append_right, length-append}
use Rattle.dvg_kept.specs.Private.Marks.{IsCounted, Marks, MarksOne, trues}
use Rattle.std.proofs.lemmas.Option.{slice_get_within}
use Rattle.dvg_kept.proofs.Picking.{none_there}

set_same : (ms : List Bool) (p : ℕ) (b : Bool) → p < length ms → slice_get (slice_set ms p b) p ≡ Some b
set_same [] p b lt = absurd (omega (arith, lt))
set_same (x ∷ ms) zero b lt = refl
set_same (x ∷ ms) (suc p) b lt = set_same ms p b (omega (arith, lt))

set_kept : (ms : List Bool) (p q : ℕ) → slice_get ms q ≡ Some true → slice_get (slice_set ms p true) q ≡ Some true
set_kept [] p q h = absurd (none_there q true h)
set_kept (x ∷ ms) zero zero h = refl
set_kept (x ∷ ms) zero (suc q) h = h
set_kept (x ∷ ms) (suc p) zero h = h
set_kept (x ∷ ms) (suc p) (suc q) h = set_kept ms p q h

pub set_others : (ms : List Bool) (p q : ℕ) → slice_get (slice_set ms p true) q ≡ Some true → (slice_get ms q ≡ Some true) ⊎ (q ≡ p)
set_others [] p q h = absurd (none_there q true h)
set_others (x ∷ ms) zero zero h = inr refl
set_others (x ∷ ms) zero (suc q) h = inl h
set_others (x ∷ ms) (suc p) zero h = inl h
set_others (x ∷ ms) (suc p) (suc q) h = ⊎_elim (λ s. inl s) (λ s. inr (ap suc s)) (set_others ms p q h)

set_len : (ms : List Bool) (p : ℕ) (b : Bool) → length (slice_set ms p b) ≡ length ms
set_len [] p b = refl
set_len (x ∷ ms) zero b = refl
set_len (x ∷ ms) (suc p) b = ap suc (set_len ms p b)

set_trues : (ms : List Bool) (p : ℕ) → slice_get ms p ≡ Some false → trues (slice_set ms p true) ≡ suc (trues ms)
set_trues [] p h = absurd (none_there p false h)
set_trues (true ∷ ms) zero h = absurd (cc h)
set_trues (false ∷ ms) zero h = refl
set_trues (true ∷ ms) (suc p) h = ap suc (set_trues ms p h)
set_trues (false ∷ ms) (suc p) h = set_trues ms p h

pub trues_few : (ms : List Bool) → trues ms ≤ length ms
trues_few [] = omega arith
trues_few (true ∷ ms) = omega (arith, trues_few ms)
trues_few (false ∷ ms) = omega (arith, trues_few ms)

pub trues_less : (ms : List Bool) (p : ℕ) → slice_get ms p ≡ Some false → trues ms < length ms
trues_less [] p h = absurd (none_there p false h)
trues_less (true ∷ ms) zero h = absurd (cc h)
trues_less (false ∷ ms) zero h = omega (arith, trues_few ms)
trues_less (true ∷ ms) (suc p) h = omega (arith, trues_less ms p h)
trues_less (false ∷ ms) (suc p) h = omega (arith, trues_less ms p h)

pub trues_none : (n : ℕ) → trues (replicate n false) ≡ 0
trues_none zero = refl
trues_none (suc n) = trues_none n

-- the marks with one more, which doesn't wait
abbrev pub with_done : Marks → ℕ → Marks
with_done old p = record { marked = slice_set old.marked p true; waiting = old.waiting; count = old.count + 1 }

-- the marks with one more, which waits
abbrev pub with_mark : Marks → ℕ → Marks
with_mark old p = record { marked = slice_set old.marked p true; waiting = old.waiting ++ p ∷ []; count = old.count + 1 }

module _ (old : Marks) (counted : IsCounted old) (p : ℕ) (free : slice_get old.marked p ≡ Some false) where
  lt : p < length old.marked
  lt = let less = trues_less old.marked p free in slice_get_within old.marked p false free

  pub one_more : MarksOne ⊥ p old (with_mark old p)
  one_more =
      record {
        len = set_len old.marked p true;
        marked = set_same old.marked p true lt;
        kept = λ q h. set_kept old.marked p q h;
        waits = λ q c. Contains-append_left old.waiting (p ∷ []) q c;
        others = λ q h. ⊎_elim (λ s. inl s) (λ s. inr (s, inl (Contains-append_right old.waiting (p ∷ []) q (zero, omega arith, sym s))))
            (set_others old.marked p q h);
        less = omega (arith, set_len old.marked p true, counted.count_is, trues_less old.marked p free, length-append old.waiting (p ∷ []));
      }

  pub counted_more : IsCounted (with_mark old p)
  counted_more =
      record {
        count_is = ap (λ n. n + 1) counted.count_is ∙ let h = set_trues old.marked p free in omega (arith, h);
        wait = λ q c. ⊎_elim (λ h. set_kept old.marked p q (counted.wait q h))
            (λ h. subst (λ x. slice_get (slice_set old.marked p true) x ≡ Some true) (sym (only q h)) (set_same old.marked p true lt))
            (Contains-append_cases old.waiting (p ∷ []) q c);
      }
    where
      only : (q : ℕ) → Contains (p ∷ []) q → q ≡ p
      only q h = grind (arith)

  pub one_done : MarksOne (Unit {0}) p old (with_done old p)
  one_done =
      record {
        len = set_len old.marked p true;
        marked = set_same old.marked p true lt;
        kept = λ q h. set_kept old.marked p q h;
        waits = λ q c. c;
        others = λ q h. ⊎_elim (λ s. inl s) (λ s. inr (s, inr tt)) (set_others old.marked p q h);
        less = omega (arith, set_len old.marked p true);
      }

  pub counted_done : IsCounted (with_done old p)
  counted_done =
      record {
        count_is = ap (λ n. n + 1) counted.count_is ∙ let h = set_trues old.marked p free in omega (arith, h);
        wait = λ q c. set_kept old.marked p q (counted.wait q c);
      }

-- what waits, or need not for one reason, need not for another
pub weaker : {N M : Type 0} (p : ℕ) (old new : Marks) → (N → M) → MarksOne N p old new → MarksOne M p old new
weaker p old new step one =
    record {
      len = one.len;
      marked = one.marked;
      kept = one.kept;
      waits = one.waits;
      others = λ q h. ⊎_elim (λ s. inl s) (λ s. inr (s.0, ⊎_elim (λ w. inl w) (λ n. inr (step n)) s.1)) (one.others q h);
      less = one.less;
    }

-- the marks as they were, where this one is among them
pub one_same : {N : Type 0} (old : Marks) (p : ℕ) → slice_get old.marked p ≡ Some true → MarksOne N p old old
one_same old p h = record { len = refl; marked = h; kept = λ q s. s; waits = λ q c. c; others = λ q s. inl s; less = omega arith }
