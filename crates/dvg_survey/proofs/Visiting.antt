-- A walk over a shape that stops where an earlier one came by: what is called from there on was met then.
use Rattle.dvg_survey.proofs.Common.{◌≡◌, ℕ, ◌+◌, ◌<◌, ◌≤◌, List, [], ◌∷◌, ◌++◌, Option, Some, None, refl, sym, ap, ◌∙◌, subst, arith, ◌⊎◌, inl, inr, ⊎_elim, Bool, true, Contains, AllByRecursion, cell_at, Rom, rom_word, Holds, Entry, Key, IsKey, LeadsTo, next_address, callee_at, scale_before, shape_context, target, Item, Shape, Call, call_of, IsShapeCall, keyed, KeyedWord, is_marked, with_word, HasWord, Contains-append_left, Contains-append_right, unwrap_or, Format, Instr, scale_set, item_same, next_further, all_append, CallsFrom, IsMet, AllMet, AreNewCalls}
use Rattle.dvg_survey.proofs.Coming.{one_call}
use Rattle.dvg_survey.proofs.Marks.{there_or_here}

-- ---- the calls from a word address on: the call of the item there, and the calls from the next address on

module _ (rom : Rom) (list : List Entry) (key : Key) (i : Item) (is : cell_at (rom_word rom) i.at ≡ Holds i.format i.instr) where
  abbrev named : Option Entry
  named = callee_at list (target Shape i.instr) key

  -- the scale that is known past the item
  abbrev past : Key
  past = unwrap_or (scale_set i.instr named) key

  -- the items behind the first one lead there from the next address
  record Behind (earlier : List Item) (p : ℕ) : Type 0 where
    next : ℕ
    goes : next_address Shape i ≡ Some next
    rest : List Item
    leads : LeadsTo Shape (rom_word rom) next rest p
    scale : scale_before (keyed rom.machine list key) earlier ≡ scale_before (keyed rom.machine list past) rest

  split : (earlier : List Item) (p : ℕ) → LeadsTo Shape (rom_word rom) i.at earlier p → ((earlier ≡ []) × (p ≡ i.at)) ⊎ Behind earlier p
  split [] p lead = inl (refl, lead)
  split (j ∷ earlier) p lead = ⊎_elim
      (λ (h : (earlier ≡ []) × (j.at ≡ i.at)).
      let same : j ≡ i = item_same j i h.1 (sym lead.1 ∙ ap (cell_at (rom_word rom)) h.1 ∙ is) in
      let items : j ∷ earlier ≡ i ∷ [] = cc (same, h.0) in
      inr (record {
        next = p;
        goes = ap (next_address Shape) (sym same) ∙ lead.2;
        rest = [];
        leads = refl;
        scale =
            ap (scale_before (keyed rom.machine list key)) items;
      }))
      (λ (b : Behind earlier j.at). inr
      (record {
        next = b.next;
        goes = b.goes;
        rest = j ∷ b.rest;
        leads = (b.leads, lead.1, lead.2);
        scale =
            ap (λ (k : Key). unwrap_or (scale_set j.instr (callee_at list (target Shape j.instr) k)) k) b.scale;
      }))
      (split earlier j.at lead.0)

  -- the item's own
  abbrev IsOwn : Call → Type 0
  IsOwn call = (call.at ≡ i.at) × (named ≡ Some call.entry)

  -- a call from the next address on
  abbrev IsFurther : Call → Type 0
  IsFurther call = (next : ℕ) × (next_address Shape i ≡ Some next) × CallsFrom rom list (next, past) call

  own_or_further : (call : Call) → CallsFrom rom list (i.at, key) call → IsOwn call ⊎ IsFurther call
  own_or_further call c =
      grind (
        arith,
        (split c.earlier c.item.at c.leads),
        item_same,
        (cell_at (rom_word rom)),
        (rom_word rom),
        callee_at,
        target,
        (target Shape c.item.instr),
        scale_before,
        (keyed rom.machine list key),
        (callee_at list (target Shape c.item.instr)),
      )

-- from a place where no item stands there are none
module _ (rom : Rom) (at : ℕ) (none : (format : Format) (instr : Instr) → cell_at (rom_word rom) at ≡ Holds format instr → ⊥) where
  only_here : (earlier : List Item) (p : ℕ) → LeadsTo Shape (rom_word rom) at earlier p → p ≡ at
  only_here [] p lead = lead
  only_here (j ∷ earlier) p lead = grind (arith, cell_at, rom_word, (only_here earlier j.at lead.0))

-- ---- the walk

at_call : (i : Item) (call : Call) (o : Option Entry) → call.at ≡ i.at → o ≡ Some call.entry → Contains (call_of i o) call
at_call i call o at is =
    subst (λ (x : Option Entry). Contains (call_of i x) call) (sym is) (0, omega arith, λ x. record { at = sym at x; entry = call.entry })

module _ (rom : Rom) (list : List Entry) (e : Entry) (old : List Bool) where
  -- among calls that have these, all from the walk's start and from each visited place were met, if all from where it stands were
  abbrev Covers : List Bool → List Call → KeyedWord → Type 0
  Covers now calls here = (all : List Call) → ((call : Call) → Contains calls call → Contains all call) → AllMet rom list old all here
      → AllMet rom list old all (e.addr, e.key) × ((place : KeyedWord) → HasWord now place → AllMet rom list old all place)

  pub record Goes (now : List Bool) (calls : List Call) (at : ℕ) (scale : Key) : Type 0 where
    pub items : List Item
    pub leads : LeadsTo Shape (rom_word rom) e.addr items at
    pub knows : scale ≡ scale_before (shape_context rom.machine list e) items
    pub key : IsKey scale
    pub own : AllByRecursion (IsShapeCall rom list e) calls
    pub covers : Covers now calls (at, scale)
    pub before : (place : KeyedWord) → HasWord now place → HasWord old place ⊎ (place.0 < at)

  pub starts : (calls : List Call) → IsKey e.key → calls ≡ [] → Goes old calls e.addr e.key
  starts calls key none =
      record {
        items = [];
        leads = refl;
        knows = refl;
        key = key;
        own = subst (AllByRecursion (IsShapeCall rom list e)) (sym none) tt;
        covers = λ all within met. (met, λ place there call c. inr (place, there, c));
        before = λ place there. inl there;
      }

  module _ (now : List Bool) (calls : List Call) (at : ℕ) (scale : Key) (g : Goes now calls at scale) where
    abbrev here : KeyedWord
    here = (at, scale)

    ends : AllMet rom list old calls here → AreNewCalls rom list e old now calls
    ends met = let k = g.covers calls (λ call h. h) met in record { own = g.own; all = k.0; visited = k.1 }

    -- at a place that was visited
    pub stops : is_marked now here ≡ true → AreNewCalls rom list e old now calls
    stops was = ends (λ call c. ⊎_elim (λ h. inr (here, h, c)) (λ lt. absurd (omega (arith, lt))) (g.before here (g.key, was)))

    -- where no item stands
    pub finds_none : ((format : Format) (instr : Instr) → cell_at (rom_word rom) at ≡ Holds format instr → ⊥)
        → AreNewCalls rom list e old now calls
    finds_none none =
        ends (λ call c. absurd (none c.item.format c.item.instr
        (ap (cell_at (rom_word rom)) (sym (only_here rom at none c.earlier c.item.at c.leads)) ∙ c.stands)))

    -- past an item, whose place is visited with it
    module _ (format : Format) (instr : Instr) (stands : cell_at (rom_word rom) at ≡ Holds format instr) (callee : Option Entry)
        (callee_is : callee ≡ callee_at list (target Shape instr) scale)
        (new : List Bool) (visits : new ≡ with_word now here) (more : List Call) where
      abbrev item : Item
      item = record { at = at; format = format; instr = instr }

      module _ (grown : more ≡ calls ++ call_of item callee) where
        now_or_here : (place : KeyedWord) → HasWord new place → HasWord now place ⊎ (place ≡ here)
        now_or_here place there = there_or_here now here g.key place (subst (λ (marks : List Bool). HasWord marks place) visits there)

        own_more : AllByRecursion (IsShapeCall rom list e) more
        own_more = subst (AllByRecursion (IsShapeCall rom list e)) (sym grown)
            (all_append (IsShapeCall rom list e) calls (call_of item callee) g.own
            (one_call (shape_context rom.machine list e) (rom_word rom) e.addr item g.items (g.leads, stands) callee
            (ap (callee_at list (target Shape instr)) (sym g.knows) ∙ sym callee_is)))

        covered : (all : List Call) → ((call : Call) → Contains more call → Contains all call)
            → ((call : Call) → IsFurther rom list scale item stands call → IsMet rom list old all call)
            → AllMet rom list old all (e.addr, e.key) × ((place : KeyedWord) → HasWord new place → AllMet rom list old all place)
        covered all within met =
            let among : (call : Call) → Contains (calls ++ call_of item callee) call → Contains all call =
            λ call h. within call (subst (λ (cs : List Call). Contains cs call) (sym grown) h) in
            let met_here : AllMet rom list old all here = λ call c. ⊎_elim
            (λ o. inl (among call (Contains-append_right calls (call_of item callee) call
            (at_call item call callee o.0 (callee_is ∙ o.1)))))
            (met call)
            (own_or_further rom list scale item stands call c) in
            let both = g.covers all (λ call h. among call (Contains-append_left calls (call_of item callee) call h)) met_here in (
              both.0,
              λ place there. ⊎_elim (both.1 place) (λ same. subst (AllMet rom list old all) (sym same) met_here)
                  (now_or_here place there),
            )

        pub walks_on : (past : Key) (next : ℕ) → past ≡ unwrap_or (scale_set instr callee) scale → IsKey past
            → next_address Shape item ≡ Some next → Goes new more next past
        walks_on past next past_is key to =
            record {
              items = item ∷ g.items;
              leads = (g.leads, stands, to);
              knows = scale_is ∙ ap (λ (k : Key). unwrap_or (scale_set instr (callee_at list (target Shape instr) k)) k) g.knows;
              key = key;
              own = own_more;
              covers = λ all within met. covered all within (λ call f. met call (grind (arith, scale_is)));
              before = λ place there. ⊎_elim
                  (λ h. ⊎_elim (λ k. inl k) (λ lt. inr (omega (arith, lt, further))) (g.before place h))
                  (λ same. let there_at : place.0 ≡ at = ap (λ (x : KeyedWord). x.0) same in inr (omega (arith, there_at, further)))
                  (now_or_here place there);
            }
          where
            scale_is : past ≡ unwrap_or (scale_set instr (callee_at list (target Shape instr) scale)) scale
            scale_is = past_is ∙ ap (λ (o : Option Entry). unwrap_or (scale_set instr o) scale) callee_is

            further : at + 1 ≤ next
            further = next_further Shape item next to

        pub ends_here : next_address Shape item ≡ None → AreNewCalls rom list e old new more
        ends_here none =
            let k = covered more (λ call h. h) (λ call f. let no : None ≡ Some f.0 = sym none ∙ f.1 in cc no) in
            record { own = own_more; all = k.0; visited = k.1 }
