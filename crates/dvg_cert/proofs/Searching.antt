-- Binary search in a list of entries that rises.
use Rattle.dvg_cert.proofs.Common.{◌≡◌, ℕ, zero, suc, ◌<◌, position_or_len, Bool, true, false, List, [], ◌∷◌, length, get_or, Some, None, refl, arith, IsTrue, ◌↔◌, nat_tests, Contains-get_or, Entry, Key, KeyBefore, Before, IsRising, is_at, entry_at, lower_key, stands_before}
use Rattle.std.proofs.lemmas.List.Folds.{find_at}
use Rattle.std.proofs.lemmas.List.Sums.{position_or_len_is}
use Rattle.std.proofs.lemmas.Option.{slice_get_past, slice_get-get_or}
use Rattle.std.specs.List.Sorted.{IsPartitionedBy, IsPartitionPoint}
use Rattle.dvg_cert.proofs.OnlyEntries.{at_means, not_before, rising_tail, before_later}

pub lower_is : (a b : Key) (r : Bool) → (IsTrue r ↔ KeyBefore a b) → r ≡ lower_key a b
lower_is a b r h = grind (arith, nat_tests)

before_fails : (addr : ℕ) (key : Key) (e : Entry) → stands_before addr key e ≡ true → is_at addr key e ≡ false
before_fails addr key e s = grind (arith, nat_tests)

behind_fails : (addr : ℕ) (key : Key) (e f : Entry) → Before e f → stands_before addr key e ≡ false → is_at addr key f ≡ false
behind_fails addr key e f h s = grind (arith, nat_tests)

before_passes : (addr : ℕ) (key : Key) (e f : Entry) → Before e f → stands_before addr key f ≡ true → stands_before addr key e ≡ true
before_passes addr key e f h s = grind (arith, nat_tests)

earlier_fails : (addr : ℕ) (key : Key) (e f : Entry) → Before e f → is_at addr key f ≡ true → is_at addr key e ≡ false
earlier_fails addr key e f h is = grind (arith, at_means, not_before)

rising_at : (es : List Entry) (i j : ℕ) (d : Entry) → IsRising es → i < j → j < length es → Before (get_or es i d) (get_or es j d)
rising_at [] i j d h lt le = absurd (omega arith)
rising_at (e ∷ es) i zero d h lt le = absurd (omega arith)
rising_at (e ∷ es) zero (suc j) d h lt le = grind (arith, before_later, Contains-get_or)
rising_at (e ∷ es) (suc i) (suc j) d h lt le = grind (arith, rising_tail, (rising_at es i j d))

pub parted : (es : List Entry) (addr : ℕ) (key : Key) → IsRising es → IsPartitionedBy (stands_before addr key) es
parted es addr key h = λ i j d le lt s. grind (arith, (rising_at es i j d h), before_passes)

-- where no entry that stands there has the address and key, there is none
none_at : (es : List Entry) (addr : ℕ) (key : Key) (i : ℕ) (d : Entry) → IsRising es
    → IsPartitionPoint (λ x. stands_before addr key x ≡ true) (λ x. stands_before addr key x ≡ false) es i
    → (i < length es → is_at addr key (get_or es i d) ≡ false) → None ≡ entry_at es addr key
none_at es addr key i d h p other =
    let fails : (k : ℕ) → k < length es → is_at addr key (get_or es k d) ≡ false =
    λ k lt. grind (arith, (p.0 k d), (p.1 i d), (rising_at es i k d h), before_fails, behind_fails, other) in
    let end : position_or_len (is_at addr key) es ≡ length es =
    position_or_len_is (is_at addr key) es (length es) d (omega arith) fails (λ lt. absurd (omega (arith, lt))) in
    grind (arith, (find_at (is_at addr key) es), slice_get_past)

pub nothing_there : (es : List Entry) (addr : ℕ) (key : Key) (i : ℕ) → IsRising es → i ≡ length es
    → IsPartitionPoint (λ x. stands_before addr key x ≡ true) (λ x. stands_before addr key x ≡ false) es i → None ≡ entry_at es addr key
nothing_there [] addr key i h end p = refl
nothing_there (e ∷ es) addr key i h end p = none_at (e ∷ es) addr key i e h p (λ lt. absurd (omega (arith, lt)))

pub other_there : (es : List Entry) (addr : ℕ) (key : Key) (i : ℕ) (d : Entry) → IsRising es → i < length es
    → IsPartitionPoint (λ x. stands_before addr key x ≡ true) (λ x. stands_before addr key x ≡ false) es i
    → is_at addr key (get_or es i d) ≡ false → None ≡ entry_at es addr key
other_there es addr key i d h lt p other = none_at es addr key i d h p (λ l. other)

pub this_there : (es : List Entry) (addr : ℕ) (key : Key) (i : ℕ) (d : Entry) → IsRising es → i < length es
    → is_at addr key (get_or es i d) ≡ true → Some (get_or es i d) ≡ entry_at es addr key
this_there es addr key i d h lt is =
    let here : position_or_len (is_at addr key) es ≡ i =
    position_or_len_is (is_at addr key) es i d (omega arith) (λ k less. grind (arith, (rising_at es k i d h), earlier_fails))
    (λ l. is) in
    grind (arith, (find_at (is_at addr key) es), slice_get-get_or)
