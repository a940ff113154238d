-- What is safe on the board's generator is safe on its circuit.
use Rattle.dvg_check.proofs.Common.{Bool, true, ◌≡◌, ℕ, zero, suc, ◌+◌, ◌%◌, ◌≤◌, List, ◌∷◌, length, nat_lt, refl, ap, sym, subst, ◌∙◌, arith, pos, if◌then◌else◌, AllByRecursion, cases_lt, Window, Point, Board, InWindow, Memory, IsMemory, Stroke, State, Status, Running, Halted, Fault, Reached, start, next_status, state_of, Ends, IsSafeStatus, Safe, rules, AllZip, length-reverse, Circuit, Counters, Reads, Run, act, run_after, begin, IsStart, ReadsAs, IsSamePlace, IsDrawnAs, Agrees, AgreesWith, counters_after, IsPast, IsSafeRun, SafeRuns, CountsOfRun, IsDrawAtPlaces, SafeIsWithinOnCircuit, SafeIsSafeOnCircuit, CountsAreOnCircuit}
use Rattle.std.specs.Prelude.{◌*ℤ◌}
use Rattle.dvg_words.proofs.Stack.{stack_within_max}
use Rattle.dvg_circuit.specs.declared.lit.LitDraw.{LitDraw}
use Rattle.dvg_circuit.proofs.Following.{all_reversed, circuit_follows}
use Rattle.dvg_circuit.proofs.Moves.{drawn_on_stroke}
use Rattle.dvg_circuit.proofs.Showing.{lit_in_window, drawn_in_window}
use Rattle.dvg_check.specs.Safety.{CountsAtHalt}
use Rattle.dvg_check.proofs.Runs.{reached_on}
use Rattle.dvg_check.proofs.Safety.{safe_state}

-- ---- the run of the generator that the circuit follows

-- where the counters stand, as a place
abbrev place_of : Counters → Point
place_of c = record { x = pos 1024 *ℤ pos c.x; y = pos 1024 *ℤ pos c.y }

same_place : (c : Circuit) → IsStart c → IsSamePlace (place_of c.counters) c.counters
same_place c begun = record { x = pos c.counters.x; y = pos c.counters.y; place = refl; counters = grind (arith) }

abbrev first : Circuit → State
first c = start (place_of c.counters) c.scale

-- after one of these instructions the stack pointer is just so many calls past where it was
abbrev Stored : ℕ → (ℕ → Run) → ℕ → ℕ → Type 0
Stored before run n most = (k : ℕ) × (k ≤ n) × ((run k).circuit.pointer ≡ (before + most) % 16)

-- the status of the generator after as many steps as the circuit took instructions, or at its halt, which comes no later
record Follows (m : Memory) (reads : ℕ → Reads) (c : Circuit) (n : ℕ) : Type 0 where
  steps : ℕ
  status : Status
  within : steps ≤ n
  reached : Reached m steps (Running (first c)) status
  agrees : AgreesWith c.pointer status (run_after reads n (begin c))
  going : (s : State) → status ≡ Running s → steps ≡ n
  deepest : Stored c.pointer (λ k. run_after reads k (begin c)) n (state_of status).max_stack

-- what is stored at most grows only where just so many are stored
deeper : (base n : ℕ) (run : ℕ → Run) (m : Memory) (s : State) → AgreesWith base (next_status m s) (run (suc n))
    → Stored base run n s.max_stack → Stored base run (suc n) (state_of (next_status m s)).max_stack
unfolding next_status
deeper base n run m s agrees deep = grind (arith, nat_lt, (cases_lt s.max_stack (length s.return_stack + 1)))

module _ (m : Memory) (w : Window) (words depth : ℕ) (mem : IsMemory m) (board : m.rom.machine ≡ Board) (safe : Safe m w words depth)
    (c : Circuit) (reads : ℕ → Reads) (begun : IsStart c) (seen : ReadsAs m reads (begin c)) where
  safe_at : (steps : ℕ) (status : Status) → Reached m steps (Running (first c)) status → IsSafeStatus m w words depth steps status
  safe_at = safe.each (place_of c.counters) c.scale (omega (arith, begun.scale))

  agree : (steps : ℕ) (status : Status) → Reached m steps (Running (first c)) status
      → AgreesWith c.pointer status (run_after reads steps (begin c))
  agree steps status = circuit_follows m reads c (place_of c.counters) steps status mem board begun seen (same_place c begun)

  -- one more instruction; none after a halt
  on : (n steps : ℕ) (status : Status) → steps ≤ n → Reached m steps (Running (first c)) status
      → AgreesWith c.pointer status (run_after reads n (begin c)) → ((s : State) → status ≡ Running s → steps ≡ n)
      → Stored c.pointer (λ k. run_after reads k (begin c)) n (state_of status).max_stack → Follows m reads c (suc n)
  on n steps (Running s) within reached agrees going deep =
      let same : steps + 1 ≡ suc n = omega (arith, going s refl) in
      let next : Reached m (suc n) (Running (first c)) (next_status m s) =
      subst (λ k. Reached m k (Running (first c)) (next_status m s)) same
      (reached_on m steps 1 (Running (first c)) (Running s) (next_status m s) reached (next_status m s, refl, refl)) in
      let now = agree (suc n) (next_status m s) next in
      record {
        steps = suc n;
        status = next_status m s;
        within = omega arith;
        reached = next;
        agrees = now;
        going = λ t e. refl;
        deepest = deeper c.pointer n (λ k. run_after reads k (begin c)) m s now deep;
      }
  on n steps (Halted s) within reached agrees going deep =
      let r : Run = run_after reads n (begin c) in
      let later : Stored c.pointer (λ k. run_after reads k (begin c)) (suc n) s.max_stack = (deep.0, omega (arith, deep.1), deep.2) in
      search (
        rules,
        steps,
        Halted s,
        reached,
        subst (λ (halted : Bool). AgreesWith c.pointer (Halted s) (if halted then r else act (reads n) (reads n r.circuit.pc) r))
            (sym agrees.0) agrees,
        later,
      )
  on n steps (Fault s) within reached agrees going deep = absurd (safe_at steps (Fault s) reached)

  follows : (n : ℕ) → Follows m reads c n
  follows zero =
      record {
        steps = 0;
        status = Running (first c);
        within = omega arith;
        reached = refl;
        agrees = agree 0 (Running (first c)) refl;
        going = λ s e. refl;
        deepest = (0, omega arith, omega (arith, begun.pointer));
      }
  follows (suc n) = let f = follows n in on n f.steps f.status f.within f.reached f.agrees f.going f.deepest

  -- ---- what is safe

  stored_at : (n : ℕ) → IsPast c.pointer depth (run_after reads n (begin c)).circuit.pointer
  stored_at n = grind (arith, (follows n), safe_at, safe_state, stack_within_max, state_of)

  -- what holds of the draw of each stroke that lies in the window holds of the draws of all of them
  module _ (P : LitDraw → Type 0)
      (drawn : (stroke : Stroke) (l : LitDraw) → InWindow w stroke.from → InWindow w stroke.to → IsDrawnAs stroke l → P l) where
    all_drawn : (strokes : List Stroke) (lit : List LitDraw) → AllByRecursion (Ends (InWindow w)) strokes → AllZip IsDrawnAs strokes lit
        → AllByRecursion P lit
    all_drawn (stroke ∷ strokes) (l ∷ lit) ends same = (drawn stroke l ends.0.0 ends.0.1 same.0, all_drawn strokes lit ends.1 same.1)
    all_drawn strokes lit ends same = grind (arith)

    safe_run : (n : ℕ) → IsSafeRun m P words depth c.pointer (run_after reads n (begin c))
    safe_run n =
        let f = follows n in
        let h = safe_at f.steps f.status f.reached in
        let s = safe_state m w words depth f.steps f.status h in
        let a : Agrees c.pointer (state_of f.status) (run_after reads n (begin c)) = grind (arith, h) in
        grind (arith, s, a, (stored_at n), length-reverse, all_reversed, all_drawn)

  halts : (n : ℕ) × (n ≤ words) × ((run_after reads n (begin c)).circuit.halted ≡ true)
  halts =
      let end = safe.halts (place_of c.counters) c.scale (omega (arith, begun.scale)) in
      (end.0, end.2, (agree end.0 (Halted end.1) end.3).0)

  counts_by : CountsAtHalt m words depth → (n steps : ℕ) (status : Status) → Reached m steps (Running (first c)) status
      → AgreesWith c.pointer status (run_after reads n (begin c))
      → Stored c.pointer (λ k. run_after reads k (begin c)) n (state_of status).max_stack
      → (run_after reads n (begin c)).circuit.halted ≡ true → CountsOfRun words depth c.pointer (λ k. run_after reads k (begin c)) n
  counts_by counts n steps (Halted h) reached agrees deep halted =
      let just = counts (place_of c.counters) c.scale steps h (omega (arith, begun.scale)) reached in
      record {
        exactly = ap length agrees.1.fetched ∙ length-reverse h.fetched ∙ just.0;
        most = stored_at;
        deepest =
            subst (Stored c.pointer (λ k. run_after reads k (begin c)) n) just.1 deep;
      }
  counts_by counts n steps status reached agrees deep halted = grind (arith, (safe_at steps status reached))

-- what holds of the draw of each stroke that lies in the window holds of the lit draws of all runs
safe_runs : (P : LitDraw → Type 0) (m : Memory) (w : Window) (words depth : ℕ) → IsMemory m → m.rom.machine ≡ Board → Safe m w words depth
    → ((stroke : Stroke) (l : LitDraw) → InWindow w stroke.from → InWindow w stroke.to → IsDrawnAs stroke l → P l)
    → SafeRuns m P words depth
safe_runs P m w words depth mem board safe drawn =
    record {
      four = safe.four;
      halts = λ c reads begun seen. halts m w words depth mem board safe c reads begun seen;
      each = λ c reads begun seen n. safe_run m w words depth mem board safe c reads begun seen P drawn n;
    }

drawn_at_places : (w : Window) (stroke : Stroke) (l : LitDraw) → InWindow w stroke.from → InWindow w stroke.to → IsDrawnAs stroke l
    → IsDrawAtPlaces w l
unfolding drawn_on_stroke
drawn_at_places w stroke l from to h =
    let on = drawn_on_stroke stroke l h in
    record {
      x = h.from.x;
      y = h.from.y;
      inside = λ n le. lit_in_window w stroke (counters_after l.draw l.from n) (on n le) from to;
      counters = λ n le. (on n le).same.counters;
    }

pub within_on_circuit : SafeIsWithinOnCircuit
within_on_circuit m w words depth mem board safe = safe_runs (IsDrawAtPlaces w) m w words depth mem board safe (drawn_at_places w)

pub safe_on_circuit : SafeIsSafeOnCircuit
safe_on_circuit m w words depth mem board is safe = search (rules, safe_runs, drawn_in_window)

pub counts_on_circuit : CountsAreOnCircuit
counts_on_circuit m w words depth mem board safe counts c reads begun seen n halted =
    let f = follows m w words depth mem board safe c reads begun seen n in
    counts_by m w words depth mem board safe c reads begun seen counts n f.steps f.status f.reached f.agrees f.deepest halted
