-- Two lists that have the same entries for what items call know the same after them.
use Rattle.dvg_make.proofs.Common.{Machine, ◌≡◌, ℕ, List, [], ◌∷◌, ◌++◌, Option, Some, None, refl, sym, ap, Contains, IfSome, IfNone, Point, option_or, is_at, entry_at, IsRising, Entry, Key, Any, Context, target, callee_at, scale_before, known_before, known_past, relative_corners, seen_at, seen_with, Item, Shape, Known, lit_points, keyed_context, arith, named_entry, IsOnlyAt, HasNoneAt, found, ◌⊎◌, inl, inr}

pub none_or_some : {A : Type 0} (o : Option A) → (o ≡ None) ⊎ ((x : A) × (o ≡ Some x))
none_or_some None = inl refl
none_or_some (Some x) = inr (x, refl)

-- ---- what is known after items, in one record

pub record Gathered : Type 0 where
  pub known : Known
  pub lit : List Point

abbrev pub gathered : Context → List Item → Gathered
gathered c items = record { known = known_before c items; lit = lit_points c items }

-- ---- from list to list

-- both have the entry at just this target and scale
abbrev pub SameAt : List Entry → List Entry → Option ℕ → Key → Type 0
SameAt a b None scale = Unit {0}
SameAt a b (Some to) scale = (e : Entry) × (entry_at a to scale ≡ Some e) × (entry_at b to scale ≡ Some e)

abbrev pub Matched : Machine → List Entry → List Entry → Key → List Item → Type 0
Matched machine a b key [] = Unit {0}
Matched machine a b key (i ∷ earlier) =
    Matched machine a b key earlier × SameAt a b (target Shape i.instr) (scale_before (keyed_context machine a key) earlier)

pub exact_named : (list : List Entry) (to : ℕ) (scale : Key) (e : Entry) → entry_at list to scale ≡ Some e
    → named_entry list to scale ≡ Some e
exact_named list to scale e h = ap (λ o. option_or o (entry_at list to Any)) h

pub gathered_same : (machine : Machine) (a b : List Entry) (key : Key) (items : List Item) → Matched machine a b key items
    → gathered (keyed_context machine a key) items ≡ gathered (keyed_context machine b key) items
gathered_same machine a b key [] h = refl
gathered_same machine a b key (i ∷ earlier) h =
    grind (
      arith,
      gathered,
      known_before,
      known_past,
      lit_points,
      relative_corners,
      keyed_context,
      exact_named,
      callee_at,
      target,
      (gathered_same machine a b key earlier h.0),
    )

pub seen_matched : (machine : Machine) (a b : List Entry) (key : Key) (earlier : List Item) (i : Item)
    → Matched machine a b key (i ∷ earlier)
    → seen_at (keyed_context machine a key) earlier i ≡ seen_at (keyed_context machine b key) earlier i
seen_matched machine a b key earlier i h = grind (arith, keyed_context, exact_named, callee_at, seen_with, target, gathered_same)

-- ---- lists that grow

pub entry_at-append : (l m : List Entry) (addr : ℕ) (key : Key)
    → entry_at (l ++ m) addr key ≡ option_or (entry_at l addr key) (entry_at m addr key)
entry_at-append [] m addr key = refl
entry_at-append (x ∷ l) m addr key = grind (arith, is_at, (entry_at-append l m addr key), entry_at, option_or)

-- ---- rising lists

-- in a rising list each entry is found
pub found_listed : (list : List Entry) (e : Entry) → IsRising list → Contains list e → entry_at list e.addr e.key ≡ Some e
found_listed list e rises c = by_found (entry_at list e.addr e.key) refl (found list e.addr e.key rises)
  where
    by_found : (o : Option Entry) → entry_at list e.addr e.key ≡ o → IfSome o (IsOnlyAt list e.addr e.key)
        × IfNone o (HasNoneAt list e.addr e.key) → o ≡ Some e
    by_found (Some g) q h = ap Some (sym (h.0.3 e c refl refl))
    by_found None q h = absurd (h.1 e c refl refl)
