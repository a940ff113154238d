-- Runs: they go on, they are determined, and what is recorded only grows.
use Rattle.dvg_check.proofs.Common.{Machine, List, zero, arith, subst, sym, suc, ap, refl, nat_lt, length, max, ◌≡◌, ◌+◌, ◌≤◌, ◌++◌, ◌∙◌, ℕ, [], cell_at, Status, Reached, Running, Halted, State, Stroke, lit_by, after_cell, next_status, after_fetch, Memory, word_at, Cell, Holds, state_of, Counts, Stretch, Mode, append_assoc, length-append, fetches, Draws, all_append, all_map, Step}

-- ---- runs

pub reached_on : (m : Memory) (i j : ℕ) (a b c : Status) → Reached m i a b → Reached m j b c → Reached m (i + j) a c
reached_on m zero j a b c r q = grind (arith)
reached_on m (suc i) j a b c r q =
    let e : suc (i + j) ≡ suc i + j = omega arith in
    let on : Reached m (suc (i + j)) a c = (r.0, r.1, reached_on m i j r.0 b c r.2 q) in
    rw (← e) on

-- a state that a run to a halt passes leads to that halt
pub rest_of : (m : Memory) (i k : ℕ) (a b : Status) (h : State) → Reached m i a b → Reached m k a (Halted h) → (j : ℕ) × (i + j ≡ k)
    × Reached m j b (Halted h)
rest_of m zero k a b h r q = (k, omega arith, subst (λ x. Reached m k x (Halted h)) r q)
rest_of m (suc i) zero a b h r q = absurd (subst (λ x. Step m x r.0) q r.1)
rest_of m (suc i) (suc k) a b h r q =
    let same : q.0 ≡ r.0 = grind (arith) in
    let on = rest_of m i k r.0 b h r.2 (subst (λ x. Reached m k x (Halted h)) same q.2) in
    (on.0, omega (arith, on.1), on.2)

-- ---- what is recorded

pub record Grows (s t : State) : Type 0 where
  pub words : List ℕ
  pub fetched : t.fetched ≡ words ++ s.fetched
  pub strokes : List Stroke
  pub drew : t.strokes ≡ strokes ++ s.strokes
  pub stored : s.max_stack ≤ t.max_stack

grows_on : (s t u : State) → Grows s t → Grows t u → Grows s u
grows_on s t u a b =
    search (
      b.words ++ a.words,
      b.strokes ++ a.strokes,
      b.fetched ∙ ap (λ l. b.words ++ l) a.fetched ∙ sym (append_assoc b.words a.words s.fetched),
      b.drew ∙ ap (λ l. b.strokes ++ l) a.drew ∙ sym (append_assoc b.strokes a.strokes s.strokes),
      arith,
    )

stays : (s t : State) → t.fetched ≡ s.fetched → t.strokes ≡ s.strokes → s.max_stack ≤ t.max_stack → Grows s t
stays s t fetched drew stored = record { words = []; fetched = fetched; strokes = []; drew = drew; stored = stored }

grows_cell : (a : Machine) (cell : Cell) (s : State) → Grows s (state_of (after_cell a cell s))
grows_cell a (Holds format (Draws d)) s =
    record { words = []; fetched = refl; strokes = lit_by d.bright _; drew = refl; stored = omega arith }
grows_cell a cell s = grind (arith, stays, nat_lt)

pub grows : (m : Memory) (n : ℕ) (a b : Status) → Reached m n a b → Grows (state_of a) (state_of b)
unfolding next_status
grows m zero a b r = subst (λ x. Grows (state_of a) (state_of x)) r (stays (state_of a) (state_of a) refl refl (omega arith))
grows m (suc n) (Running s) b r =
    let f : Grows s (after_fetch m s) =
    record { words = fetches ((word_at m).word s.pc) s.pc; fetched = refl; strokes = []; drew = refl; stored = omega arith } in
    let step : Grows s (state_of r.0) =
    subst (λ x. Grows s (state_of x)) r.1
    (grows_on s (after_fetch m s) _ f (grows_cell m.rom.machine (cell_at (word_at m) s.pc) (after_fetch m s))) in
    grows_on s (state_of r.0) (state_of b) step (grows m n r.0 b r.2)
grows m (suc n) a b r = absurd r.1

-- ---- stretches of a run

pub counts_same : (mode : Mode) (a b : ℕ) → a ≡ b → Counts mode a b
counts_same mode a b e = grind (arith)

pub counts_le : (mode : Mode) (a b : ℕ) → Counts mode a b → a ≤ b
counts_le mode a b h = grind (arith)

pub counts_sum : (mode : Mode) (x y z a b c : ℕ) → x + y ≡ z → Counts mode x a → Counts mode y b → Counts mode (a + b) c → Counts mode z c
counts_sum mode x y z a b c e h k l = grind (arith)

pub stretch_on : (mode : Mode) (m : Memory) (F : ℕ → Type 0) (P : Stroke → Type 0) (a b c d1 d2 d : ℕ) (s t u : State)
    → Counts mode (a + b) c → Counts mode (max d1 d2) d → Stretch mode m F P a d1 s t → Stretch mode m F P b d2 t u
    → Stretch mode m F P c d s u
stretch_on mode m F P a b c d1 d2 d s t u le deep p q =
    let within : p.steps + q.steps ≤ c = omega (arith, p.within, q.within, counts_le mode (a + b) c le) in
    let few = counts_sum mode (length p.words) (length q.words) (length (q.words ++ p.words)) a b c
    (omega (arith, length-append q.words p.words)) p.few q.few le in
    let stored : Counts mode u.max_stack (max s.max_stack d) = grind (arith, p.stored, q.stored) in
    let fetched = q.fetched ∙ ap (λ l. q.words ++ l) p.fetched ∙ sym (append_assoc q.words p.words s.fetched) in
    let drew = q.drew ∙ ap (λ l. q.strokes ++ l) p.drew ∙ sym (append_assoc q.strokes p.strokes s.strokes) in
    search (
      reached_on m p.steps q.steps (Running s) (Running t) (Running u) p.reached q.reached,
      all_append F q.words p.words q.mapped p.mapped,
      all_append P q.strokes p.strokes q.lit p.lit,
    )

-- what is claimed of words and strokes may be less
pub stretch_less : (mode : Mode) (m : Memory) (F G : ℕ → Type 0) (P Q : Stroke → Type 0) (most deep : ℕ) (s t : State)
    → ((p : ℕ) → F p → G p) → ((k : Stroke) → P k → Q k) → Stretch mode m F P most deep s t → Stretch mode m G Q most deep s t
stretch_less mode m F G P Q most deep s t f g c = search (all_map F G c.words f c.mapped, all_map P Q c.strokes g c.lit)

-- other counts, which are as many
pub stretch_as : (mode : Mode) (m : Memory) (F : ℕ → Type 0) (P : Stroke → Type 0) (most more deep deeper : ℕ) (s t : State)
    → most ≡ more → deep ≡ deeper → Stretch mode m F P most deep s t → Stretch mode m F P more deeper s t
stretch_as mode m F P most more deep deeper s t a b c =
    subst (λ d. Stretch mode m F P more d s t) b (subst (λ k. Stretch mode m F P k deep s t) a c)

-- no step at all
pub stretch_here : (mode : Mode) (m : Memory) (F : ℕ → Type 0) (P : Stroke → Type 0) (deep : ℕ) (s : State) → deep ≤ s.max_stack
    → Stretch mode m F P 0 deep s s
stretch_here mode m F P deep s le =
    record {
      steps = 0;
      reached = refl;
      within = omega arith;
      words = [];
      fetched = refl;
      few = counts_same mode 0 0 refl;
      mapped = tt;
      strokes = [];
      drew = refl;
      lit = tt;
      stored = counts_same mode s.max_stack (max s.max_stack deep) (omega arith);
    }

pub deeper : (mode : Mode) (m : Memory) (F : ℕ → Type 0) (P : Stroke → Type 0) (most deep : ℕ) (s t : State)
    → Stretch mode m F P most deep s t → s.max_stack ≤ t.max_stack
deeper mode m F P most deep s t c = (grows m c.steps (Running s) (Running t) c.reached).stored
