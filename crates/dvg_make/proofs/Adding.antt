-- What is merged so far.
use Rattle.std.specs.Prelude.{◌≡◌, ℕ, suc, ◌+◌, ◌<◌, ◌≤◌, List, [], ◌∷◌, ◌++◌, length, Option, Some, None, take, get_or, Bool, true, false, is_some, not, refl}
use Rattle.std.specs.Option.{option_or}
use Rattle.dvg_make.proofs.Common.{arith, sym, ap, subst, ◌∙◌, Entry, Key, entry_at, is_at, at_means, take-suc, length-append}
use Rattle.dvg_make.proofs.Matching.{entry_at-append}

-- the first entries of the second list are merged with the first list
pub record Added (first second : List Entry) (n : ℕ) (merged : List Entry) : Type 0 where
  pub found : (addr : ℕ) (key : Key) → entry_at merged addr key ≡ option_or (entry_at first addr key) (entry_at (take n second) addr key)
  pub few : length merged ≤ length first + n

or_or : {A : Type 0} (a b c : Option A) → option_or (option_or a b) c ≡ option_or a (option_or b c)
or_or (Some x) b c = refl
or_or None b c = refl

or_none : {A : Type 0} (a : Option A) → option_or a None ≡ a
or_none (Some x) = refl
or_none None = refl

or_some : {A : Type 0} (a : Option A) (x : A) (c : Option A) → a ≡ Some x → option_or a c ≡ a
or_some a x c h = ap (λ o. option_or o c) h ∙ sym h

module _ (first second : List Entry) (n : ℕ) (merged : List Entry) (added : Added first second n merged) (lt : n < length second)
    (d : Entry) where
  abbrev x : Entry
  x = get_or second n d

  taken_next : take (suc n) second ≡ take n second ++ x ∷ []
  taken_next = grind (arith, take-suc)

  taken : take (n + 1) second ≡ take n second ++ x ∷ []
  taken = ap (λ k. take k second) (let next : n + 1 ≡ suc n = omega arith in next) ∙ taken_next

  one_found : (addr : ℕ) (key : Key)
      → entry_at (take (n + 1) second) addr key ≡ option_or (entry_at (take n second) addr key) (entry_at (x ∷ []) addr key)
  one_found addr key = ap (λ (l : List Entry). entry_at l addr key) taken ∙ entry_at-append (take n second) (x ∷ []) addr key

  pub more_added : Added first second (n + 1) (merged ++ x ∷ [])
  more_added =
      record {
        found = λ addr key.
            entry_at-append merged (x ∷ []) addr key ∙ ap (λ o. option_or o (entry_at (x ∷ []) addr key)) (added.found addr key)
            ∙ or_or (entry_at first addr key) (entry_at (take n second) addr key) (entry_at (x ∷ []) addr key)
            ∙ ap (λ o. option_or (entry_at first addr key) o) (sym (one_found addr key));
        few = omega (arith, added.few, length-append merged (x ∷ []));
      }

  pub same_added : (f : Entry) → entry_at merged x.addr x.key ≡ Some f → Added first second (n + 1) merged
  same_added f has =
      record {
        found = λ addr key. by_is addr key (is_at addr key x) refl;
        few = omega (arith, added.few);
      }
    where
      by_is : (addr : ℕ) (key : Key) (b : Bool) → is_at addr key x ≡ b
          → entry_at merged addr key ≡ option_or (entry_at first addr key) (entry_at (take (n + 1) second) addr key)
      by_is addr key false not = grind (arith, (added.found addr key), (one_found addr key), not, or_none, entry_at)
      by_is addr key true at =
          let there : (x.addr ≡ addr) × (x.key ≡ key) = at_means addr key x at in
          let here : entry_at merged addr key ≡ Some f =
          subst (λ (y : ℕ). entry_at merged y key ≡ Some f) there.0
          (subst (λ (y : Key). entry_at merged x.addr y ≡ Some f) there.1 has) in
          sym (ap (λ o. option_or (entry_at first addr key) o) (one_found addr key)
          ∙ sym (or_or (entry_at first addr key) (entry_at (take n second) addr key) (entry_at (x ∷ []) addr key))
          ∙ ap (λ o. option_or o (entry_at (x ∷ []) addr key)) (sym (added.found addr key))
          ∙ or_some (entry_at merged addr key) f (entry_at (x ∷ []) addr key) here)

pub some_of : {A : Type 0} (o : Option A) (b : Bool) → is_some o ≡ not b → b ≡ false → (x : A) × (o ≡ Some x)
some_of (Some x) b h f = (x, refl)
some_of None b h f = absurd (let g : false ≡ true = h ∙ ap not f in cc g)
