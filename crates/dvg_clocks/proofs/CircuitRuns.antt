-- What a run takes on the circuit is what it takes on the generator.
use Rattle.dvg_clocks.proofs.Common.{◌≡◌, ℕ, ◌+◌, ◌≤◌, ◌<◌, zero, suc, Option, Some, None, refl, sym, ◌∙◌, ap, subst, arith, true, nat_le, nat_tests, Memory, State, Status, Running, Halted, Fault, Reached, start, IsMemory, word_at, next_status, cell_at, Cell, Holds, Format, Short, Long, Instr, format_of, instruction_of, Machine, Board, Point, Measure, IsInRange, taken_at, taken_by, taken_next, taken_after, frame_taken, CircuitTakes}
use Rattle.std.specs.Prelude.{◌*ℤ◌, pos}
use Rattle.dvg_circuit.proofs.Common.{AllByRecursion, cases_eq, fetched_at, cell_holding, long_cell, cell_of_words, Run, Reads, past, places, decoded, run_after, begin, IsRead, ReadsNow, ReadsAs, IsSamePlace, AgreesWith, after_cell}
use Rattle.dvg_circuit.specs.Circuit.{second_word}
use Rattle.dvg_circuit.specs.declared.counters.Counters.{Counters}
use Rattle.dvg_circuit.specs.Premises.{IsStart}
use Rattle.dvg_circuit.specs.declared.circuit.Circuit.{Circuit}
use Rattle.dvg_circuit.proofs.Following.{circuit_follows}
use Rattle.dvg_circuit.proofs.Reading.{low_word}
use Rattle.dvg_check.proofs.Runs.{reached_on}
use Rattle.dvg_clocks.proofs.FrameRuns.{run}

-- ---- what the circuit reads is what stands there

-- the circuit performs this instruction in this format
abbrev Performs : Reads → ℕ → Format → Instr → Type 0
Performs reads p format i = (format_of (reads p) ≡ format) × (decoded (reads p) (second_word (format_of (reads p)) reads p) ≡ i)

same_holding : (f format : Format) (i : Instr) (first second read : ℕ) → read ≡ second
    → cell_holding f (instruction_of Board first second) ≡ Holds format i → (f ≡ format) × (decoded first read ≡ i)
same_holding f format i first second read e is = grind (arith)

same_long : (m : Memory) (reads : Reads) (p first : ℕ) (second : Option ℕ) (format : Format) (i : Instr) → IsMemory m
    → fetched_at m (p + 1) ≡ second → IsRead m reads (past Short p) → p < 4095 → long_cell Board first second ≡ Holds format i
    → (Long ≡ format) × (decoded first (reads (past Short p)) ≡ i)
same_long m reads p first None format i mem e seen low is = absurd (grind (arith))
same_long m reads p first (Some second) format i mem e seen low is =
    let behind : past Short p ≡ p + 1 = omega (arith, low) in
    same_holding Long format i first second _ (seen second (ap (fetched_at m) behind ∙ e)) is

same_first : (m : Memory) (reads : Reads) (p : ℕ) (first : Option ℕ) (format : Format) (i : Instr) → IsMemory m → fetched_at m p ≡ first
    → AllByRecursion (IsRead m reads) (places (format_of (reads p)) p)
    → cell_of_words Board first (fetched_at m (p + 1)) ≡ Holds format i → Performs reads p format i
same_first m reads p None format i mem e seen is = absurd (grind (arith))
same_first m reads p (Some first) format i mem e seen is = grind (arith, same_holding, same_long, (low_word m p first mem e))

same_there : (m : Memory) (reads : Reads) (p : ℕ) (format : Format) (i : Instr) → IsMemory m → m.rom.machine ≡ Board
    → AllByRecursion (IsRead m reads) (places (format_of (reads p)) p) → cell_at (word_at m) p ≡ Holds format i → Performs reads p format i
unfolding cell_at
same_there m reads p format i mem board seen is =
    same_first m reads p (fetched_at m p) format i mem refl seen
    (subst (λ k. cell_of_words k (fetched_at m p) (fetched_at m (p + 1)) ≡ Holds format i) board is)

same_taken : (measure : Measure) (m : Memory) (base : ℕ) (reads : Reads) (r : Run) (s : State) (format : Format) (i : Instr) → IsMemory m
    → m.rom.machine ≡ Board → ReadsNow m reads r → AgreesWith base (Running s) r → cell_at (word_at m) s.pc ≡ Holds format i
    → taken_next measure reads r ≡ measure format i s.scale
same_taken measure m base reads r s format i mem board seen agrees is =
    let same = same_there m reads r.circuit.pc format i mem board seen (ap (cell_at (word_at m)) agrees.1.pc ∙ is) in
    grind (arith, agrees)

-- ---- runs

-- the status is no fault
abbrev IsSound : Status → Type 0
IsSound (Fault s) = ⊥
IsSound status = Unit {0}

-- no run leads from a fault to what is none
sound_before : (m : Memory) (n : ℕ) (a b : Status) → Reached m n a b → IsSound b → IsSound a
sound_before m zero a b r h = subst IsSound (sym r) h
sound_before m (suc n) (Running s) b r h = tt
sound_before m (suc n) a b r h = absurd (grind (arith))

-- where a step leads to no fault there is an instruction
there : (machine : Machine) (cell : Cell) (s : State) → IsSound (after_cell machine cell s) → (format : Format) × (i : Instr)
    × (cell ≡ Holds format i)
there machine (Holds format i) s h = (format, i, refl)
there machine cell s h = absurd (grind (arith))

module _ (measure : Measure) (m : Memory) (mem : IsMemory m) (board : m.rom.machine ≡ Board) (c : Circuit) (reads : ℕ → Reads)
    (begun : IsStart c) (seen : ReadsAs m reads (begin c)) (place : Point) (same : IsSamePlace place c.counters) where
  step_taken : (k : ℕ) (s : State) → Reached m k (Running (start place c.scale)) (Running s) → IsSound (next_status m s)
      → taken_next measure (reads k) (run_after reads k (begin c)) ≡ taken_at measure (cell_at (word_at m) s.pc) s.scale
  unfolding next_status
  step_taken k s reached sound =
      let agrees : AgreesWith c.pointer (Running s) (run_after reads k (begin c)) =
      circuit_follows m reads c place k (Running s) mem board begun seen same reached in
      let t = there m.rom.machine (cell_at (word_at m) s.pc) _ sound in
      same_taken measure m c.pointer (reads k) (run_after reads k (begin c)) s t.0 t.1 mem board (seen k agrees.0) agrees t.2
      ∙ sym (ap (λ x. taken_at measure x s.scale) t.2)

  taken_on_circuit : (k n all : ℕ) (mid after : Status) → all ≡ k + n → Reached m k (Running (start place c.scale)) mid
      → Reached m n mid after → IsSound after
      → taken_after measure reads all (begin c) ≡ taken_after measure reads k (begin c) + taken_by measure m n mid
  taken_on_circuit k zero all mid after e come go sound = grind (arith)
  taken_on_circuit k (suc n) all (Running s) after e come go sound =
      let next : Reached m (k + 1) (Running (start place c.scale)) go.0 =
      reached_on m k 1 (Running (start place c.scale)) (Running s) go.0 come (go.0, go.1, refl) in
      let more : k + 1 ≡ suc k = omega arith in
      let rest = taken_on_circuit (suc k) n all go.0 after (omega (arith, e))
      (subst (λ j. Reached m j (Running (start place c.scale)) go.0) more next) go.2 sound in
      let one = step_taken k s come (subst IsSound (sym go.1) (sound_before m n go.0 after go.2 sound)) in
      let ahead : taken_by measure m n go.0 ≡ taken_by measure m n (next_status m s) = ap (taken_by measure m n) (sym go.1) in
      omega (arith, rest, one, ahead)
  taken_on_circuit k (suc n) all mid after e come go sound = absurd (grind (arith))

-- after a halt nothing more is taken
after_halt : (measure : Measure) (reads : ℕ → Reads) (r : Run) (k n : ℕ) → (run_after reads k r).circuit.halted ≡ true → k ≤ n
    → (run_after reads n r ≡ run_after reads k r) × (taken_after measure reads n r ≡ taken_after measure reads k r)
after_halt measure reads r k zero h le = grind (arith)
after_halt measure reads r k (suc n) h le = grind (arith, (after_halt measure reads r k n h), (cases_eq k (suc n)))

-- all halted runs of the circuit have taken the same
same_halts : (measure : Measure) (reads : ℕ → Reads) (r : Run) (k n : ℕ) → (run_after reads k r).circuit.halted ≡ true
    → (run_after reads n r).circuit.halted ≡ true → taken_after measure reads n r ≡ taken_after measure reads k r
same_halts measure reads r k n h g =
    grind (arith, (after_halt measure reads r k n h), (after_halt measure reads r n k g), nat_le, nat_tests, (nat_le k n))

abbrev place_of : Counters → Point
place_of c = record { x = pos 1024 *ℤ pos c.x; y = pos 1024 *ℤ pos c.y }

same_place : (c : Circuit) → IsStart c → IsSamePlace (place_of c.counters) c.counters
same_place c begun = record { x = pos c.counters.x; y = pos c.counters.y; place = refl; counters = grind (arith, begun) }

-- more instructions take no less
taken_more : (measure : Measure) (reads : ℕ → Reads) (r : Run) (k n : ℕ) → n ≤ k
    → taken_after measure reads n r ≤ taken_after measure reads k r
taken_more measure reads r zero n le = grind (arith)
taken_more measure reads r (suc k) n le = grind (arith, (taken_more measure reads r k n), (cases_eq (suc k) n))

-- a run has never taken more than at a halt
taken_most : (measure : Measure) (reads : ℕ → Reads) (r : Run) (k n : ℕ) → (run_after reads k r).circuit.halted ≡ true
    → taken_after measure reads n r ≤ taken_after measure reads k r
taken_most measure reads r k n h =
    grind (arith, (taken_more measure reads r k n), (after_halt measure reads r k n h), nat_le, nat_tests, (nat_le k n))

pub circuit_takes : CircuitTakes
circuit_takes measure forecast by_entry mode m w v list budget words depth right mem board three good sums gf c reads begun seen =
    let place = place_of c.counters in
    let r = run measure forecast right by_entry mode m w v list budget words depth mem three good sums gf place c.scale in
    let stops = (circuit_follows m reads c place r.n (Halted r.h) mem board begun seen (same_place c begun) r.reached).0 in
    let whole = taken_on_circuit measure m mem board c reads begun seen place (same_place c begun) 0 r.n r.n
    (Running (start place c.scale)) (Halted r.h) (omega arith) refl r.reached tt in
    record {
      each = λ n. omega (arith, whole, r.took.most, taken_most measure reads (begin c) r.n n stops);
      halted = λ n halted.
          let same : taken_by measure m r.n (Running (start place c.scale)) ≡ taken_after measure reads n (begin c) =
          omega (arith, whole, same_halts measure reads (begin c) r.n n stops halted) in
          subst (IsInRange (frame_taken forecast by_entry gf)) same r.took;
    }
