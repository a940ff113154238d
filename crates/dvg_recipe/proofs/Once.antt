-- A run comes to the word behind a good frame's items once: what it does later stands at higher words.
use Rattle.dvg_recipe.proofs.Common.{◌≡◌, ◌<◌, ◌≤◌, ◌+◌, ◌++◌, ◌∙◌, ℕ, zero, suc, List, [], ◌∷◌, length, refl, sym, ap, subst, ⊎_elim, inl, inr, ◌⊎◌, arith, nat_tests, cases_lt, LeadsTo}
use Rattle.std.proofs.lemmas.List.{length-append}
use Rattle.dvg_check.proofs.Common.{Machine, Item, Instr, Draws, Labs, Halt, Jsrl, Rtsl, Jmpl, Format, Short, Long, Holds, Cell, Frame, Memory, IsMemory, frame_word, word_at, State, Status, Running, Halted, Fault, Reached, next_status, after_instruction, after_cell, after_fetch, word_count, word_count-some, IsForward, nat_lt, Missing, Odd, places}
unfoldable use Rattle.dvg_check.proofs.Common.{cell_at}
use Rattle.dvg_check.proofs.Steps.{next_there, stands}
use Rattle.dvg_items.proofs.Leading.{same_lead}
use Rattle.dvg_recipe.proofs.Past.{format_there}

-- ---- runs are determined

running_same : (s t : State) → Running s ≡ Running t → s ≡ t
running_same s t e = grind (arith, e)

-- a longer run goes on from where a shorter one came
later : (m : Memory) (k n : ℕ) (a b c : Status) → k ≤ n → Reached m k a b → Reached m n a c → (j : ℕ) × (k + j ≡ n) × Reached m j b c
later m zero n a b c le r q = (n, omega arith, subst (λ x. Reached m n x c) r q)
later m (suc k) zero a b c le r q = absurd (omega (arith, le))
later m (suc k) (suc n) (Running s) b c le r q =
    let same : q.0 ≡ r.0 = sym q.1 ∙ r.1 in
    let on = later m k n r.0 b c (omega (arith, le)) r.2 (subst (λ x. Reached m n x c) same q.2) in (on.0, omega (arith, on.1), on.2)
later m (suc k) (suc n) (Halted h) b c le r q = absurd r.1
later m (suc k) (suc n) (Fault h) b c le r q = absurd r.1

-- no step leads on from a halt or a fault
no_more : (m : Memory) (n : ℕ) (h u : State) → (Reached m n (Halted h) (Running u) → ⊥) × (Reached m n (Fault h) (Running u) → ⊥)
no_more m zero h u = (λ e. not_halted e, λ e. not_fault e)
  where
    not_halted : Halted h ≡ Running u → ⊥
    not_halted e = grind (arith, e)

    not_fault : Fault h ≡ Running u → ⊥
    not_fault e = grind (arith, e)
no_more m (suc n) h u = (λ r. absurd r.1, λ r. absurd r.1)

-- ---- what one step does to the return places

record Returns (s t : State) : Type 0 where
  back : ℕ
  rest : List ℕ
  was : s.return_stack ≡ back ∷ rest
  pc : t.pc ≡ back
  now : t.return_stack ≡ rest

data Stores (s t : State) : Type 0 where
  Same : t.return_stack ≡ s.return_stack → Stores s t
  Called : t.return_stack ≡ (s.pc + 1) ∷ s.return_stack → Stores s t
  Back : Returns s t → Stores s t

stores_cell : (a : Machine) (cell : Cell) (s t : State) → after_cell a cell s ≡ Running t → Stores s t
stores_cell a Missing s t e = absurd (no e)
  where
    no : Fault s ≡ Running t → ⊥
    no e = grind (arith, e)
stores_cell a Odd s t e = absurd (no e)
  where
    no : Fault s ≡ Running t → ⊥
    no e = grind (arith, e)
stores_cell a (Holds format (Draws d)) s t e = Same (sym (ap (λ (x : State). x.return_stack) (running_same _ t e)))
stores_cell a (Holds format (Labs x y g)) s t e = Same (sym (ap (λ (x : State). x.return_stack) (running_same _ t e)))
stores_cell a (Holds format Halt) s t e = absurd (no e)
  where
    no : Halted s ≡ Running t → ⊥
    no e = grind (arith, e)
stores_cell a (Holds format (Jmpl to)) s t e = Same (sym (ap (λ (x : State). x.return_stack) (running_same _ t e)))
stores_cell a (Holds format (Jsrl to)) s t e = Called (grind (arith, e, nat_lt, nat_tests))
stores_cell a (Holds format Rtsl) s t e = returned s.return_stack refl e
  where
    returned : (stack : List ℕ) → s.return_stack ≡ stack → after_cell a (Holds format Rtsl) s ≡ Running t → Stores s t
    returned [] is e = absurd (grind (arith, is, e))
    returned (back ∷ rest) is e =
        let same : record s { pc = back; return_stack = rest } ≡ t = running_same _ t (grind (arith, is, e)) in
        Back (record {
          back = back;
          rest = rest;
          was = is;
          pc = sym (ap (λ (x : State). x.pc) same);
          now = sym (ap (λ (x : State). x.return_stack) same);
        })

stores : (m : Memory) (s t : State) → next_status m s ≡ Running t → Stores s t
unfolding next_status
stores m s t e = fetched (stores_cell m.rom.machine (cell_at (word_at m) s.pc) (after_fetch m s) t e)
  where
    fetched : Stores (after_fetch m s) t → Stores s t
    fetched (Same h) = Same h
    fetched (Called h) = Called h
    fetched (Back r) = Back (record { back = r.back; rest = r.rest; was = r.was; pc = r.pc; now = r.now })

-- ---- a call until its return

-- the run has come back from a call, so many steps before its end
record CameBack (m : Memory) (n : ℕ) (u : State) (back : ℕ) (rest : List ℕ) : Type 0 where
  j : ℕ
  less : j < n
  v : State
  pc : v.pc ≡ back
  now : v.return_stack ≡ rest
  reached : Reached m j (Running v) (Running u)

sooner : (m : Memory) (n : ℕ) (u : State) (back : ℕ) (rest : List ℕ) → CameBack m n u back rest → CameBack m (suc n) u back rest
sooner m n u back rest c = record { j = c.j; less = omega (arith, c.less); v = c.v; pc = c.pc; now = c.now; reached = c.reached }

split_first : (y back : ℕ) (ys rest first : List ℕ) (x : ℕ) → (y ∷ ys) ++ back ∷ rest ≡ x ∷ first → first ≡ ys ++ back ∷ rest
split_first y back ys rest first x e = grind (arith, e)

only_first : (back x : ℕ) (rest first : List ℕ) → back ∷ rest ≡ x ∷ first → (x ≡ back) × (first ≡ rest)
only_first back x rest first e = grind (arith, e)

-- what is stored below is stored still, or the run has come back
abbrev StillOrBack : Memory → ℕ → State → ℕ → List ℕ → Type 0
StillOrBack m n u back rest = ((zs : List ℕ) × (u.return_stack ≡ zs ++ back ∷ rest)) ⊎ CameBack m n u back rest

module _ (m : Memory) (n : ℕ) (s t u : State) (back : ℕ) (rest : List ℕ) (r : Reached m n (Running t) (Running u))
    (goes : (zs : List ℕ) → t.return_stack ≡ zs ++ back ∷ rest → StillOrBack m n u back rest) where
  goes_on : (zs : List ℕ) → t.return_stack ≡ zs ++ back ∷ rest → StillOrBack m (suc n) u back rest
  goes_on zs now = ⊎_elim (λ h. inl h) (λ c. inr (sooner m n u back rest c)) (goes zs now)

  taken_back : (ys : List ℕ) → s.return_stack ≡ ys ++ back ∷ rest → Returns s t → StillOrBack m (suc n) u back rest
  taken_back [] is b =
      let one = only_first back b.back rest b.rest (sym is ∙ b.was) in
      inr (record { j = n; less = omega arith; v = t; pc = b.pc ∙ one.0; now = b.now ∙ one.1; reached = r })
  taken_back (y ∷ ys) is b = goes_on ys (b.now ∙ split_first y back ys rest b.rest b.back (sym is ∙ b.was))

  step_below : (ys : List ℕ) → s.return_stack ≡ ys ++ back ∷ rest → Stores s t → StillOrBack m (suc n) u back rest
  step_below ys is (Same h) = goes_on ys (h ∙ is)
  step_below ys is (Called h) = goes_on ((s.pc + 1) ∷ ys) (h ∙ ap (λ (l : List ℕ). (s.pc + 1) ∷ l) is)
  step_below ys is (Back b) = taken_back ys is b

-- as long as it has not come back, what was stored is stored
below : (m : Memory) (n : ℕ) (s u : State) (back : ℕ) (rest ys : List ℕ) → s.return_stack ≡ ys ++ back ∷ rest
    → Reached m n (Running s) (Running u) → StillOrBack m n u back rest
below m zero s u back rest ys is r = inl (ys, ap (λ (x : State). x.return_stack) (sym (running_same s u r)) ∙ is)
below m (suc n) s u back rest ys is (Halted h, step, r) = absurd ((no_more m n h u).0 r)
below m (suc n) s u back rest ys is (Fault h, step, r) = absurd ((no_more m n h u).1 r)
below m (suc n) s u back rest ys is (Running t, step, r) =
    step_below m n s t u back rest r (λ zs now. below m n t u back rest zs now r) ys is (stores m s t step)

-- ---- from one item of a frame on

-- all places of a frame hold items, and no jump leads back
pub record IsStraight (m : Memory) : Type 0 where
  pub memory : IsMemory m
  pub holds : (items : List Item) (p : ℕ) → LeadsTo Frame (frame_word m.rom.machine m.frame) 0 items p
      → (format : Format) × (instr : Instr) × (cell_at (frame_word m.rom.machine m.frame) p ≡ Holds format instr) × IsForward p instr

module _ (m : Memory) (straight : IsStraight m) where
  -- where the step from an item leads: to the next one, or into a shape from which it comes back to the next one
  record Next (items : List Item) (s t : State) : Type 0 where
    item : Item
    p : ℕ
    lead : LeadsTo Frame (frame_word m.rom.machine m.frame) 0 (item ∷ items) p
    further : s.pc < p
    goes : ((t.pc ≡ p) × (t.return_stack ≡ [])) ⊎ (t.return_stack ≡ p ∷ [])

  next : (items : List Item) (s t : State) → LeadsTo Frame (frame_word m.rom.machine m.frame) 0 items s.pc → s.return_stack ≡ []
      → next_status m s ≡ Running t → Next items s t
  next items s t lead none step =
      let h = straight.holds items s.pc lead in
      by h.0 h.1 h.2 h.3 (sym (next_there m s h.0 h.1 (stands Frame m s.pc h.0 h.1 straight.memory h.2)) ∙ step)
    where
      by : (format : Format) (instr : Instr) → cell_at (frame_word m.rom.machine m.frame) s.pc ≡ Holds format instr → IsForward s.pc instr
          → after_instruction m.rom.machine instr format (record s { fetched = places format s.pc ++ s.fetched }) ≡ Running t
          → Next items s t
      by format (Draws d) is fwd e =
          let same = running_same _ t e in
          record {
            item = record { at = s.pc; format = format; instr = Draws d };
            p = s.pc + word_count format;
            lead = (lead, is, refl);
            further = omega (arith, word_count-some format);
            goes = inl (sym (ap (λ (x : State). x.pc) same), sym (ap (λ (x : State). x.return_stack) same) ∙ none);
          }
      by format (Labs x y g) is fwd e =
          let same = running_same _ t e in
          record {
            item = record { at = s.pc; format = format; instr = Labs x y g };
            p = s.pc + word_count format;
            lead = (lead, is, refl);
            further = omega (arith, word_count-some format);
            goes = inl (sym (ap (λ (x : State). x.pc) same), sym (ap (λ (x : State). x.return_stack) same) ∙ none);
          }
      by format (Jmpl to) is fwd e =
          let same = running_same _ t e in
          record {
            item = record { at = s.pc; format = format; instr = Jmpl to };
            p = to;
            lead = (lead, is, grind (arith, nat_tests, fwd));
            further = fwd;
            goes = inl (sym (ap (λ (x : State). x.pc) same), sym (ap (λ (x : State). x.return_stack) same) ∙ none);
          }
      by Short (Jsrl to) is fwd e =
          record {
            item = record { at = s.pc; format = Short; instr = Jsrl to };
            p = s.pc + 1;
            lead = (lead, is, refl);
            further = omega arith;
            goes = inr (grind (arith, nat_tests, nat_lt, none, e));
          }
      by Long (Jsrl to) is fwd e = absurd (long (format_there (frame_word m.rom.machine m.frame) s.pc Long (Jsrl to) is))
        where
          long : Long ≡ Short → ⊥
          long h = grind (arith, h)
      by format Halt is fwd e = absurd (grind (arith, e))
      by format Rtsl is fwd e = absurd (grind (arith, none, e))

  -- what stands later at the frame's own words stands higher, of runs of fewer steps than this
  abbrev IsHigher : ℕ → Type 0
  IsHigher bound =
      (n : ℕ) → n < bound → (items : List Item) (s u : State) → LeadsTo Frame (frame_word m.rom.machine m.frame) 0 items s.pc
      → s.return_stack ≡ [] → Reached m (suc n) (Running s) (Running u) → u.return_stack ≡ [] → s.pc < u.pc

  module _ (bound : ℕ) (before : IsHigher bound) (items : List Item) (s t u : State) (x : Next items s t) (last : u.return_stack ≡ []) where
    on : (k : ℕ) → k ≤ bound → (v : State) → v.pc ≡ x.p → v.return_stack ≡ [] → Reached m k (Running v) (Running u) → s.pc < u.pc
    on zero le v at now r = omega (arith, x.further, at, ap (λ (y : State). y.pc) (running_same v u r))
    on (suc k) le v at now r =
        let lead_on = subst (λ q. LeadsTo Frame (frame_word m.rom.machine m.frame) 0 (x.item ∷ items) q) (sym at) x.lead in
        omega (arith, x.further, at, before k (omega (arith, le)) (x.item ∷ items) v u lead_on now r last)

    one_higher : (n : ℕ) → n < suc bound → Reached m n (Running t) (Running u) → s.pc < u.pc
    one_higher n lt r =
        ⊎_elim
        (λ there. on n (omega (arith, lt)) t there.0 there.1 r)
        (λ stored. ⊎_elim
        (λ z. absurd (omega (arith, ap (λ (l : List ℕ). length l) (sym last ∙ z.1), length-append z.0 (x.p ∷ []))))
        (λ back. on back.j (omega (arith, back.less, lt)) back.v back.pc back.now back.reached)
        (below m n t u x.p [] [] stored r))
        x.goes

  higher : (bound : ℕ) → IsHigher bound
  higher zero n lt items s u lead none r last = absurd (omega (arith, lt))
  higher (suc bound) n lt items s u lead none (Halted h, step, r) last = absurd ((no_more m n h u).0 r)
  higher (suc bound) n lt items s u lead none (Fault h, step, r) last = absurd ((no_more m n h u).1 r)
  higher (suc bound) n lt items s u lead none (Running t, step, r) last =
      one_higher bound (higher bound) items s t u (next items s t lead none step) last n lt r

  pub once : (items : List Item) (a : Status) (k n : ℕ) (s t : State) → Reached m k a (Running s) → Reached m n a (Running t)
      → LeadsTo Frame (frame_word m.rom.machine m.frame) 0 items s.pc → LeadsTo Frame (frame_word m.rom.machine m.frame) 0 items t.pc
      → s.return_stack ≡ [] → t.return_stack ≡ [] → s ≡ t
  once items a k n s t r q here there none empty =
      ⊎_elim (λ less. absurd (apart k n s t less r q here there none empty))
      (λ le. ⊎_elim (λ more. absurd (apart n k t s more q r there here empty none))
      (λ same. let on = later m k n a (Running s) (Running t) same r q in
      let none_left : on.0 ≡ zero = omega (arith, on.1, le, same) in
      running_same s t (subst (λ j. Reached m j (Running s) (Running t)) none_left on.2)) (cases_lt n k)) (cases_lt k n)
    where
      apart : (k n : ℕ) (s t : State) → k < n → Reached m k a (Running s) → Reached m n a (Running t)
          → LeadsTo Frame (frame_word m.rom.machine m.frame) 0 items s.pc → LeadsTo Frame (frame_word m.rom.machine m.frame) 0 items t.pc
          → s.return_stack ≡ [] → t.return_stack ≡ [] → ⊥
      apart k n s t less r q here there none empty =
          let on = later m k n a (Running s) (Running t) (omega (arith, less)) r q in
          let same = (same_lead Frame (frame_word m.rom.machine m.frame) 0 items items s.pc t.pc here there refl).place in
          more on.0 (omega (arith, on.1, less)) on.2 same
        where
          more : (j : ℕ) → 0 < j → Reached m j (Running s) (Running t) → s.pc ≡ t.pc → ⊥
          more zero lt r e = omega (arith, lt)
          more (suc j) lt r e = omega (arith, e, higher (suc j) j (omega arith) items s t here none r empty)
