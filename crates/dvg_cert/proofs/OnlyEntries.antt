-- A list that rises has one entry at an address and key at most.
use Rattle.dvg_cert.proofs.Common.{◌≡◌, ℕ, zero, suc, Bool, true, false, cond, List, [], ◌∷◌, length, take, get_or, ◌<◌, Option, Some, None, refl, sym, subst, arith, inl, inr, ◌⊎◌, IfSome, IfNone, Contains, nat_tests, Entry, Key, Before, IsRising, rules, common_steps, is_at, entry_at, IsOnlyAt, HasNoneAt}
use Rattle.std.proofs.lemmas.Bool.{and_parts, and_from}

pub at_means : (addr : ℕ) (key : Key) (e : Entry) → is_at addr key e ≡ true → (e.addr ≡ addr) × (e.key ≡ key)
at_means addr key e h = grind (arith, and_parts, nat_tests)

pub at_holds : (addr : ℕ) (key : Key) (e : Entry) → e.addr ≡ addr → e.key ≡ key → is_at addr key e ≡ true
at_holds addr key e a k = grind (arith, nat_tests, and_from)

pub before_next : (e f g : Entry) → Before e f → Before f g → Before e g
before_next e f g h3 h4 = grind (arith)

pub not_before : (e f : Entry) → f.addr ≡ e.addr → f.key ≡ e.key → Before e f → ⊥
not_before e f a k h4 = grind (arith)

-- an entry of a list is its first or in what follows
pub first_or_later : (e : Entry) (es : List Entry) (f : Entry) → Contains (e ∷ es) f → (f ≡ e) ⊎ Contains es f
first_or_later e es f h3 = grind (arith)

pub later : (e : Entry) (es : List Entry) (f : Entry) → Contains es f → Contains (e ∷ es) f
later e es f h = (suc h.0, omega (arith, h.1), h.2)

pub rising_tail : (e : Entry) (es : List Entry) → IsRising (e ∷ es) → IsRising es
rising_tail e es h = grind (arith)

pub before_later : (e : Entry) (es : List Entry) (f : Entry) → IsRising (e ∷ es) → Contains es f → Before e f
before_later e [] f h c = absurd (omega (arith, c.1))
before_later e (g ∷ es) f h c =
    elim (first_or_later g es f c) [
      | inl same ↦ subst (λ (x : Entry). Before e x) (sym same) h.0
      | inr d ↦ before_next e g f h.0 (before_later g es f h.1 d)
    ]

not_at : (e f : Entry) → Before e f → is_at f.addr f.key e ≡ false
not_at e f lt = grind (arith, at_means, not_before)

-- no entry before one stands at its address and key
pub new_at : (es : List Entry) (i : ℕ) (d : Entry) → IsRising es → i < length es
    → entry_at (take i es) (get_or es i d).addr (get_or es i d).key ≡ None
new_at [] i d h lt = absurd (omega arith)
new_at (e ∷ es) zero d h lt = refl
new_at (e ∷ es) (suc i) d h lt =
    grind (
      arith,
      rules,
      common_steps,
      not_at,
      before_later,
      (new_at es i d (rising_tail e es h) (omega (arith, lt))),
      (rising_tail e es h),
      rising_tail,
    )

-- one more entry in front
found_first : (addr : ℕ) (key : Key) (e : Entry) (es : List Entry) (b : Bool) (o : Option Entry) → is_at addr key e ≡ b
    → IsRising (e ∷ es) → IfSome o (IsOnlyAt es addr key) × IfNone o (HasNoneAt es addr key)
    → IfSome (cond b (Some e) o) (IsOnlyAt (e ∷ es) addr key) × IfNone (cond b (Some e) o) (HasNoneAt (e ∷ es) addr key)
found_first addr key e es true o is h _ =
    let here = at_means addr key e is in (
      (
        (zero, omega arith, refl),
        here.0,
        here.1,
        λ f c a k. grind (arith, (first_or_later e es f c), (not_before e f), (before_later e es f h)),
      ),
      tt,
    )
found_first addr key e es false None is h r = (tt, λ f c a k. grind (arith, at_holds, first_or_later, (r.1 f)))
found_first addr key e es false (Some g) is h r =
    ((later e es g r.0.0, r.0.1, r.0.2, λ f c a k. grind (arith, at_holds, first_or_later, (r.0.3 f))), tt)

pub found : (es : List Entry) (addr : ℕ) (key : Key) → IsRising es → IfSome (entry_at es addr key) (IsOnlyAt es addr key)
    × IfNone (entry_at es addr key) (HasNoneAt es addr key)
found [] addr key h = (tt, λ f c a k. absurd (omega (arith, c.1)))
found (e ∷ es) addr key h =
    found_first addr key e es (is_at addr key e) (entry_at es addr key) refl h (found es addr key (rising_tail e es h))
