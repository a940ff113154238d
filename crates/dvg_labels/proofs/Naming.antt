-- What is known of labels when one more is looked at.
use Rattle.dvg_labels.proofs.Common.{◌≡◌, ◌≢◌, ℕ, ◌+◌, ◌<◌, ◌≤◌, List, [], ◌∷◌, ◌++◌, length, map, take, drop, get_or, Option, Some, None, true, false, refl, sym, subst, append_assoc, arith, rules, common_steps, Contains, All, take-append-drop, Named, named_of, Label, may_name, Names, IsNearest, StandsAt, StandsAtTwo, IsFound, IsAddress}
use Rattle.std.proofs.lemmas.List.Elements.{All-push, All-append, All-cons, Contains-append_right}
use Rattle.std.proofs.lemmas.List.{map-append}
use Rattle.std.proofs.Math.Seq.{take-suc}
use Rattle.std.specs.Option.{ok_or}
use Rattle.dvg_labels.specs.declared.labels.Nearest.{Nearest}
use Rattle.dvg_labels.specs.declared.fault.Unnamed.TheVariants.{Unknown}

weaken : {X : Type 0} (P Q : X → Type 0) (xs : List X) → ((x : X) → P x → Q x) → All P xs → All Q xs
weaken P Q xs f h k d lt = f (get_or xs k d) (h k d lt)

module _ (labels : List Named) (l : Named) (name : List ℕ) where
  pub keep_other : (found : Option ℕ) → l.name ≢ name → IsFound labels name found → IsFound (labels ++ l ∷ []) name found
  keep_other None ne h = All-push (λ (o : Named). o.name ≢ name) labels l h ne
  keep_other (Some addr) ne h = grind (arith, rules, common_steps)

  last_there : l.name ≡ name → Contains (labels ++ l ∷ []) (record { name = name; addr = l.addr })
  last_there is =
      subst (λ n. Contains (labels ++ l ∷ []) (record { name = n; addr = l.addr })) is
      (Contains-append_right labels (l ∷ []) l (0, omega arith, refl))

  pub first_found : l.name ≡ name → IsFound labels name None → StandsAt (labels ++ l ∷ []) name l.addr
  first_found is h = grind (arith, rules, common_steps, (last_there is), weaken, last_there)

  pub two_found : (addr : ℕ) → l.name ≡ name → addr ≢ l.addr → StandsAt labels name addr → StandsAtTwo (labels ++ l ∷ []) name
  two_found addr is ne h = grind (arith, rules, common_steps, (last_there is), last_there)

module _ (labels : List Named) (l : Named) (at : ℕ) where
  on_end : (n : Nearest) (h : Names labels at n.name.now n.distance) → (may_name at l.addr ≡ true → l.addr ≤ h.addr)
      → Names (labels ++ l ∷ []) at n.name.now n.distance
  on_end n h le =
      grind (
        arith,
        rules,
        common_steps,
        (append_assoc h.before (record { name = n.name.now; addr = h.addr } ∷ h.after) (l ∷ [])),
        append_assoc,
      )

  pub keep_best : (best : Option Nearest) → may_name at l.addr ≡ false → IsNearest labels at best → IsNearest (labels ++ l ∷ []) at best
  keep_best None off h = All-push (λ (o : Named). may_name at o.addr ≡ false) labels l h off
  keep_best (Some n) off h = on_end n h (λ on. grind (arith, on, off))

  pub keep_nearer : (n : Nearest) (d : ℕ) → at ≡ l.addr + d → n.distance ≤ d → Names labels at n.name.now n.distance
      → Names (labels ++ l ∷ []) at n.name.now n.distance
  keep_nearer n d near le h = on_end n h (λ on. omega (arith, near, le, h.near))

  at_end : (d : ℕ) → may_name at l.addr ≡ true → at ≡ l.addr + d
      → All (λ (o : Named). may_name at o.addr ≡ true → o.addr < l.addr) labels → Names (labels ++ l ∷ []) at l.name d
  at_end d may near below = grind (arith)

  pub take_nearer : (n : Nearest) (d : ℕ) → may_name at l.addr ≡ true → at ≡ l.addr + d → d < n.distance
      → Names labels at n.name.now n.distance → Names (labels ++ l ∷ []) at l.name d
  take_nearer n d may near lt h =
      let P : Named → Type 0 = λ o. may_name at o.addr ≡ true → o.addr < l.addr in
      let x : Named = record { name = n.name.now; addr = h.addr } in
      let higher : h.addr < l.addr = omega (arith, near, lt, h.near) in
      at_end d may near (subst (All P) (sym h.listed) (All-append P h.before (x ∷ h.after)
      (weaken (λ (o : Named). may_name at o.addr ≡ true → o.addr < h.addr) P h.before (λ o f on. omega (arith, f on, higher)) h.below)
      (All-cons P x h.after (λ on. higher)
      (weaken (λ (o : Named). may_name at o.addr ≡ true → o.addr ≤ h.addr) P h.after (λ o f on. omega (arith, f on, higher)) h.behind))))

-- one more label, as a name and an address
pub one_more : (xs : List Label) (i : ℕ) (x : Label) → x ≡ get_or xs i x → i < length xs
    → map named_of (take (i + 1) xs) ≡ map named_of (take i xs) ++ named_of x ∷ []
one_more xs i x is lt = grind (arith, rules, common_steps, take-suc, map-append)

-- what is known of the first labels of a list, of all
pub two_of_all : (xs : List Label) (n : ℕ) (name : List ℕ) → StandsAtTwo (map named_of (take n xs)) name
    → StandsAtTwo (map named_of xs) name
two_of_all xs n name h =
    grind (
      arith,
      rules,
      common_steps,
      (map named_of (take n xs)),
      (map named_of (drop n xs)),
      (map named_of xs),
      (map-append named_of (take n xs) (drop n xs)),
      (map named_of),
      (take-append-drop n xs),
      map,
      take-append-drop,
    )

pub address_of_found : (labels : List Named) (name : List ℕ) (found : Option ℕ) → IsFound labels name found
    → IsAddress labels name (ok_or found Unknown)
address_of_found labels name found h = grind (arith)
