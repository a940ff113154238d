-- The entries from which calls lead to a shape that lights outside the window, found sweep by sweep.
use Rattle.dvg_survey.proofs.Common.{get_or-set_other, Format, Instr, ◌≡◌, ℕ, ◌+◌, ◌<◌, Bool, true, false, List, [], ◌∷◌, ◌++◌, length, get_or, take, Option, Some, None, refl, sym, ap, ◌∙◌, subst, arith, ◌⊎◌, inl, inr, ⊎_elim, Contains, IfSome, Rom, rom_word, cell_at, Holds, Entry, entry_at, Item, Shape, Context, shape_context, callee, scale_before, target, seen_at, IsSomeCertificate, listed_claim, Seen, Call, LeadsOn, KeyedWord, with_word, AreNone, Comes, comes_on, get_or_default, Contains-append_left, Contains-push, Contains-push_cases, IfNone, IsPermutation, Window, IsOnlyAt, HasNoneAt, IsRising, place_before, extent, LitInWindow, named_listed, EntryPlaces, ArePlaces, AreAllPlaces, IsNotEmpty, ShapeKeepsWindow, length-append, is_broken, IsUnbroken, IsCleanItem, IsClean, IsFaulty, Breaks, AllBreak, IsSwept, TellsBroken}
use Rattle.std.proofs.lemmas.List.{take_more}
use Rattle.std.proofs.Math.ListN.{get_or-eq_default}
use Rattle.std.proofs.lemmas.Grind.{get_or-set_at}
use Rattle.std.proofs.lemmas.List.Sorted.{Contains-permutation, IsPermutation-sym}
use Rattle.dvg_cert.proofs.OnlyEntries.{found}
use Rattle.dvg_survey.proofs.AllItems.{up_to}
use Rattle.dvg_survey.proofs.Marks.{here_or_other, others_among}
use Rattle.dvg_survey.proofs.Walking.{HoldsOfAll}

-- ---- the items of one shape

-- each of these items is clean
abbrev pub CleanItems : Window → List Bool → Context → List Item → Type 0
CleanItems w marks c [] = Unit {0}
CleanItems w marks c (i ∷ earlier) = CleanItems w marks c earlier × IsCleanItem w marks (seen_at c earlier i)

module _ (w : Window) (rom : Rom) (list : List Entry) (marks : List Bool) (e : Entry) where
  abbrev c : Context
  c = shape_context rom.machine list e

  pub all_clean : HoldsOfAll c (rom_word rom) e.addr (CleanItems w marks c) → IsClean w rom list marks e
  all_clean (all, are, h) earlier i leads stands =
      (up_to Shape (rom_word rom) e.addr (CleanItems w marks c) (λ j rest p. p.0) all are h (i ∷ earlier) (leads, stands)).1

  pub clean_on : (given : List Seen) (v : Seen) → Comes c (CleanItems w marks c) given → IsCleanItem w marks v
      → Comes c (CleanItems w marks c) (given ++ v ∷ [])
  clean_on given v h clean =
      comes_on c (CleanItems w marks c) (CleanItems w marks c) given v h (λ items i is p. (p, subst (IsCleanItem w marks) is clean))

  -- ---- what an entry that is not clean breaks

  own_breaks : (f : IsFaulty w rom list marks e) → (LitInWindow w (extent c f.earlier f.item.instr) (place_before c f.earlier) → ⊥)
      → Breaks w rom list e
  own_breaks f out = grind (arith, seen_at)

  pub faulty_breaks : AllBreak w rom list marks → IsFaulty w rom list marks e → Breaks w rom list e
  faulty_breaks all f = by (callee c f.earlier f.item.instr) refl
    where
      marked : (g : Entry) → callee c f.earlier f.item.instr ≡ Some g → (b : Bool) → is_broken marks g ≡ b → Breaks w rom list e
      marked g is true m =
          let b = all g (named_listed list (target Shape f.item.instr) (scale_before c f.earlier) g is) m in
          record {
            calls = record { at = f.item.at; entry = g } ∷ b.calls;
            goal = b.goal;
            leads =
                (record { earlier = f.earlier; item = f.item; leads = f.leads; stands = f.stands; at = refl; callee_is = is }, b.leads);
            breaks = b.breaks;
          }
      marked g is false m = own_breaks f (λ lit. f.faulty (lit, subst (IsUnbroken marks) (sym is) m))

      by : (o : Option Entry) → callee c f.earlier f.item.instr ≡ o → Breaks w rom list e
      by None is = own_breaks f (λ lit. f.faulty (lit, subst (IsUnbroken marks) (sym is) tt))
      by (Some g) is = marked g is (is_broken marks g) refl

-- ---- marks

pub still_marked : (old new : List Bool) (here : KeyedWord) → new ≡ with_word old here → (e : Entry) → is_broken old e ≡ true
    → is_broken new e ≡ true
still_marked old new here is e h = grind (arith, get_or-set_at, get_or-set_other, get_or-eq_default)

-- an entry is the only one of a certificate at its address and key
only : (list : List Entry) → IsRising list → (e f : Entry) → Contains list e → Contains list f → f.addr ≡ e.addr → f.key ≡ e.key → f ≡ e
only list rising e f he hf a k = by (entry_at list e.addr e.key) (found list e.addr e.key rising)
  where
    by : (o : Option Entry) → IfSome o (IsOnlyAt list e.addr e.key) × IfNone o (HasNoneAt list e.addr e.key) → f ≡ e
    by None h = absurd (h.1 e he refl refl)
    by (Some g) h = h.0.3 f hf a k ∙ sym (h.0.3 e he refl refl)

-- what holds of each entry and of one more
over_push : (P : Entry → Type 0) (es : List Entry) (e : Entry) → ((f : Entry) → Contains es f → P f) → P e → (f : Entry)
    → Contains (es ++ e ∷ []) f → P f
over_push P es e old new f h = ⊎_elim (old f) (λ here. subst P here new) (Contains-push_cases es e f h)

module _ (w : Window) (rom : Rom) (list : List Entry) where
  more_break : IsSomeCertificate list → (old new : List Bool) (e : Entry) → new ≡ with_word old (e.addr, e.key) → Contains list e
      → Breaks w rom list e
      → AllBreak w rom list old → AllBreak w rom list new
  more_break cert old new e is listed breaks all f f_listed m =
      ⊎_elim
      (λ (same : (f.addr, f.key) ≡ (e.addr, e.key)). subst (Breaks w rom list)
      (sym (only list cert.1.rising e f listed f_listed (ap (λ (p : KeyedWord). p.0) same) (ap (λ (p : KeyedWord). p.1) same))) breaks)
      (λ other. all f f_listed (sym (others_among old (e.addr, e.key) (f.addr, f.key) other)
      ∙ ap (λ (marks : List Bool). is_broken marks f) (sym is) ∙ m))
      (here_or_other old (e.addr, e.key) (listed_claim list e cert listed).key (f.addr, f.key) (listed_claim list f cert f_listed).key)

  -- ---- a sweep

  -- over one entry more
  module _ (swept left more : List Entry) (old new marks : List Bool) (n : ℕ) (d : Entry) (lt : n < length swept)
      (s : IsSwept w rom list (take n swept) left old new) where
    abbrev e : Entry
    e = get_or swept n d

    -- a clean one
    pub kept_on : more ≡ left ++ e ∷ [] → marks ≡ new → IsClean w rom list new e → IsSwept w rom list (take (n + 1) swept) more old marks
    kept_on more_is same clean =
        rw (take_more swept n d lt, more_is, same)
        (record {
          broken = s.broken;
          still = s.still;
          each = over_push (λ f. Contains (left ++ e ∷ []) f ⊎ (is_broken new f ≡ true)) (take n swept) e
              (λ f was. ⊎_elim (λ k. inl (Contains-append_left left (e ∷ []) f k)) (λ m. inr m) (s.each f was))
              (inl (Contains-push left e));
          from = over_push (Contains (take n swept ++ e ∷ [])) left e
              (λ f was. Contains-append_left (take n swept) (e ∷ []) f (s.from f was)) (Contains-push (take n swept) e);
          few = omega (arith, s.few, length-append left (e ∷ []), length-append (take n swept) (e ∷ []));
          clean = λ few. over_push (IsClean w rom list new) (take n swept) e
              (s.clean (omega (arith, few, length-append left (e ∷ []), length-append (take n swept) (e ∷ [])))) clean;
        })

    -- one that is not, which is marked
    pub marked_on : IsSomeCertificate list → ((f : Entry) → Contains swept f → Contains list f) → more ≡ left
        → marks ≡ with_word new (e.addr, e.key) → is_broken marks e ≡ true → IsFaulty w rom list new e
        → IsSwept w rom list (take (n + 1) swept) more old marks
    marked_on cert listed more_is adds there faulty =
        let still : (f : Entry) → is_broken new f ≡ true → is_broken marks f ≡ true = still_marked new marks (e.addr, e.key) adds in
        rw (take_more swept n d lt, more_is)
        (record {
          broken = more_break cert new marks e adds (listed e (n, lt, get_or_default swept n e d lt))
              (faulty_breaks w rom list new e s.broken faulty) s.broken;
          still = λ f m. still f (s.still f m);
          each = over_push (λ f. Contains left f ⊎ (is_broken marks f ≡ true)) (take n swept) e
              (λ f was. ⊎_elim (λ k. inl k) (λ m. inr (still f m)) (s.each f was)) (inr there);
          from = λ f h. Contains-append_left (take n swept) (e ∷ []) f (s.from f h);
          few = omega (arith, s.few, length-append (take n swept) (e ∷ []));
          clean = λ few. absurd (omega (arith, few, s.few, length-append (take n swept) (e ∷ [])));
        })

  -- ---- sweep after sweep

  -- each entry of the list is still swept, or is marked
  pub record Covered (swept : List Entry) (marks : List Bool) : Type 0 where
    pub broken : AllBreak w rom list marks
    pub listed : (e : Entry) → Contains swept e → Contains list e
    pub each : (e : Entry) → Contains list e → Contains swept e ⊎ (is_broken marks e ≡ true)

  -- at first, in any order
  pub first_covered : (given order : List Entry) (marks : List Bool) → given ≡ list → IsPermutation given order → AreNone marks
      → Covered order marks
  first_covered given order marks is moves none =
      record {
        broken = λ e listed m. let no : false ≡ true = sym (none (e.addr, e.key)) ∙ m in cc no;
        listed = λ e h. subst (λ (l : List Entry). Contains l e) is
            (Contains-permutation order given e (IsPermutation-sym given order moves) h);
        each = λ e h. inl (Contains-permutation given order e moves (subst (λ (l : List Entry). Contains l e) (sym is) h));
      }

  pub covered_on : (swept left : List Entry) (old new : List Bool) → Covered swept old → IsSwept w rom list swept left old new
      → Covered left new
  covered_on swept left old new h s = grind (arith)

  clean_keeps : (marks : List Bool) (e : Entry) → IsClean w rom list marks e → ShapeKeepsWindow w rom list e
  clean_keeps marks e clean items p at =
      let lit : (format : Format) (instr : Instr) → cell_at (rom_word rom) p ≡ Holds format instr
      → LitInWindow w (extent (shape_context rom.machine list e) items instr)
      (place_before (shape_context rom.machine list e) items) =
      λ format instr is. (clean items (record { at = p; format = format; instr = instr }) at is).0 in
      grind (arith, cell_at, lit, seen_at)

  -- an entry that is not marked leads to none that breaks the rule
  unbroken_keeps : (marks : List Bool) → ((e : Entry) → Contains list e → is_broken marks e ≡ false → IsClean w rom list marks e)
      → (calls : List Call) (e goal : Entry) → Contains list e → is_broken marks e ≡ false → LeadsOn rom list e calls goal
      → ShapeKeepsWindow w rom list goal
  unbroken_keeps marks clean [] e goal listed m leads = subst (ShapeKeepsWindow w rom list) leads (clean_keeps marks e (clean e listed m))
  unbroken_keeps marks clean (call ∷ rest) e goal listed m leads =
      let k = leads.0 in
      let unbroken = subst (IsUnbroken marks) k.callee_is (clean e listed m k.earlier k.item k.leads k.stands).1 in
      unbroken_keeps marks clean rest call.entry goal
      (named_listed list (target Shape k.item.instr) (scale_before (shape_context rom.machine list e) k.earlier) call.entry
      k.callee_is) unbroken leads.1

  pub told : (swept left : List Entry) (old new : List Bool) → Covered swept old → IsSwept w rom list swept left old new
      → length left ≡ length swept → TellsBroken w rom list new
  told swept left old new h s same e listed = grind (arith, unbroken_keeps)

-- ---- the places of all entries

all_push : (w : Window) (rom : Rom) (list es : List Entry) (ps : List EntryPlaces) (e : Entry) (p : EntryPlaces) → p.entry ≡ e
    → ArePlaces w rom list e p.places → IsNotEmpty p.places
    → AreAllPlaces w rom list es ps → AreAllPlaces w rom list (es ++ e ∷ []) (ps ++ p ∷ [])
all_push w rom list [] [] e p is places some h = (is, places, some, tt)
all_push w rom list [] (q ∷ ps) e p is places some h = absurd h
all_push w rom list (f ∷ es) [] e p is places some h = absurd h
all_push w rom list (f ∷ es) (q ∷ ps) e p is places some h = (h.0, h.1, h.2, all_push w rom list es ps e p is places some h.3)

pub places_next : (w : Window) (rom : Rom) (list given : List Entry) → given ≡ list → (marks : List Bool) → TellsBroken w rom given marks
    → (n : ℕ) (d : Entry) → n < length given → (old new : List EntryPlaces) (p : EntryPlaces) → p.entry ≡ get_or given n d
    → new ≡ old ++ p ∷ []
    → ((rom : Rom) (list : List Entry) → Contains list (get_or given n d) → TellsBroken w rom list marks
    → ArePlaces w rom list (get_or given n d) p.places) → IsNotEmpty p.places
    → AreAllPlaces w rom list (take n given) old → AreAllPlaces w rom list (take (n + 1) given) new
places_next w rom list given same marks tells n d lt old new p entry adds places some h =
    let e : Entry = get_or given n d in
    let there : Contains given e = (n, lt, get_or_default given n e d lt) in
    let own : ArePlaces w rom list e p.places =
    places rom list (subst (λ (l : List Entry). Contains l e) same there)
    (subst (λ (l : List Entry). TellsBroken w rom l marks) same tells) in
    rw (take_more given n d lt, adds) (all_push w rom list (take n given) old e p entry own some h)
