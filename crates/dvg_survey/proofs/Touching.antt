-- A walk over a shape up to the first word that differs.
use Rattle.dvg_survey.proofs.Common.{◌≡◌, ℕ, ◌+◌, ◌<◌, ◌∙◌, ◌++◌, length, List, [], ◌∷◌, Option, Some, None, Contains, IfNone, take, get_or, sym, ap, subst, inl, inr, ⊎_elim, arith, rules, common_steps, cases_lt, take-suc, Rom, rom_word, cell_at, Holds, Format, Instr, Entry, Item, Shape, LeadsTo, AtEachOf, next_address, everywhere, same_lead, shorter, DiffersAt, taken_at, ReadsDiffering, IsTouched, TouchedEntry, AreTouched}
use Rattle.std.proofs.Common.{◌≤◌, append-nil, refl}
use Rattle.dvg_items.proofs.Leading.{here_same}

module _ (rom other : Rom) where
  -- nothing that stands at an address takes a word that differs
  abbrev pub TakesNone : ℕ → Type 0
  TakesNone at = (p : ℕ) → Contains (taken_at rom at) p → DiffersAt rom other p → ⊥

  module _ (addr : ℕ) where
    -- these items lead to where the walk stands, and none of them takes a word that differs
    pub record Passed (at : ℕ) : Type 0 where
      pub items : List Item
      pub leads : LeadsTo Shape (rom_word rom) addr items at
      pub none : AtEachOf (λ earlier p. TakesNone p) items

    module _ (at : ℕ) (passed : Passed at) where
      module _ (none : TakesNone at) where
        pub goes_on : (format : Format) (instr : Instr) (next : ℕ) → cell_at (rom_word rom) at ≡ Holds format instr
            → next_address Shape (record { at = at; format = format; instr = instr }) ≡ Some next → Passed next
        goes_on format instr next is goes =
            record {
              items = record { at = at; format = format; instr = instr } ∷ passed.items;
              leads = (passed.leads, is, goes);
              none =
                  (passed.none, none);
            }

        -- at the last item
        pub ends : (format : Format) (instr : Instr) → cell_at (rom_word rom) at ≡ Holds format instr
            → next_address Shape (record { at = at; format = format; instr = instr }) ≡ None → IsTouched rom other addr → ⊥
        ends format instr is last t =
            let r = t.1.reads in
            everywhere Shape (rom_word rom) addr (λ earlier p. TakesNone p) passed.items
            (record { at = at; format = format; instr = instr }) passed.leads is last (passed.none, none)
            r.earlier r.at r.leads t.0 r.taken t.1.differs

        -- where no item stands
        module _ (nothing : (format : Format) (instr : Instr) → cell_at (rom_word rom) at ≡ Holds format instr → ⊥) where
          no_longer : (earlier : List Item) (q : ℕ) → LeadsTo Shape (rom_word rom) addr earlier q → length earlier ≤ length passed.items
          no_longer [] q h = omega arith
          no_longer (j ∷ earlier) q h =
              grind (
                arith,
                (no_longer earlier j.at h.0),
                (same_lead Shape (rom_word rom) addr earlier passed.items j.at at h.0 passed.leads),
                (nothing j.format j.instr),
              )

          takes_none : (earlier : List Item) (q : ℕ) → LeadsTo Shape (rom_word rom) addr earlier q → TakesNone q
          takes_none earlier q h =
              ⊎_elim
              (λ less. shorter Shape (rom_word rom) addr (λ earlier p. TakesNone p) passed.items at passed.leads passed.none earlier q h
              less)
              (λ le. here_same Shape (rom_word rom) addr (λ earlier p. TakesNone p) earlier passed.items q at
              (same_lead Shape (rom_word rom) addr earlier passed.items q at h passed.leads (omega (arith, le, no_longer earlier q h)))
              none)
              (cases_lt (length earlier) (length passed.items))

      pub none_left : ((format : Format) (instr : Instr) → cell_at (rom_word rom) at ≡ Holds format instr → ⊥) → (o : Option ℕ)
          → IfNone o (TakesNone at) → IfNone o (IsTouched rom other addr → ⊥)
      none_left nothing None h = λ t. let r = t.1.reads in takes_none h nothing r.earlier r.at r.leads t.0 r.taken t.1.differs
      none_left nothing (Some p) h = tt

  -- ---- the touched ones, from one entry to the next

  touched_on : (list more : List Entry) (touched rest : List TouchedEntry) → AreTouched rom other list touched
      → AreTouched rom other more rest → AreTouched rom other (list ++ more) (touched ++ rest)
  touched_on [] more touched rest h k = subst (λ (ts : List TouchedEntry). AreTouched rom other more (ts ++ rest)) (sym h) k
  touched_on (e ∷ list) more touched rest h k =
      ⊎_elim
      (λ un. inl (un.0, touched_on list more touched rest un.1 k))
      (λ n. inr (search (ap (λ (ts : List TouchedEntry). ts ++ rest) n.first, touched_on list more n.rest rest n.others k)))
      h

  -- up to the next entry
  module _ (list : List Entry) (i : ℕ) (d : Entry) (lt : i < length list) (touched : List TouchedEntry)
      (h : AreTouched rom other (take i list) touched) where
    next : (new more : List TouchedEntry) → AreTouched rom other (get_or list i d ∷ []) new → more ≡ touched ++ new
        → AreTouched rom other (take (i + 1) list) more
    next new more k grown =
        grind (
          arith,
          rules,
          common_steps,
          (take-suc list i d lt),
          (touched_on (take i list) (get_or list i d ∷ []) touched new h k),
          take-suc,
        )

    pub next_none : (IsTouched rom other (get_or list i d).addr → ⊥) → (more : List TouchedEntry) → more ≡ touched
        → AreTouched rom other (take (i + 1) list) more
    next_none un more same = next [] more (inl (un, refl)) (same ∙ sym (append-nil touched))

    pub next_one : (word : ℕ) → ReadsDiffering rom other (get_or list i d).addr word → (more : List TouchedEntry)
        → more ≡ touched ++ record { entry = get_or list i d; word = word } ∷ [] → AreTouched rom other (take (i + 1) list) more
    next_one word r more grown =
        next (record { entry = get_or list i d; word = word } ∷ []) more
        (inr (record { word = word; rest = []; first = refl; differs = r; others = refl })) grown
