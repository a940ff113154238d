-- The worked example on the circuit, instruction by instruction.
use Rattle.dvg_check.proofs.Common.{true, false, ◌≡◌, ℕ, zero, suc, ◌≤◌, List, length, inl, refl, sym, subst, arith, Contains, ints, Board, format_of, instruction_of, screen, Entry, Exact, Safe, get_or-set_same, IsWindow, Circuit, Counters, Run, run_after, begin, IsStart, ReadsNow, ReadsAs, memory_for, example_list}
use Rattle.dvg_cert.specs.declared.limits.TheConstants.{MOST_DEPTH}
use Rattle.dvg_check.specs.CircuitExample.{example_reads, WorkedCircuit}
use Rattle.dvg_check.proofs.Circuit.{safe_on_circuit, counts_on_circuit}
use Rattle.dvg_check.proofs.Example.{worked_example}
use Rattle.dvg_check.proofs.FrameLaws.{good_is_safe, exact_is_exact}

-- ---- the run

abbrev registers : Counters → ℕ → ℕ → List ℕ → Circuit
registers counters scale pointer returns =
    record { pc = 0; counters = counters; scale = scale; pointer = pointer; returns = returns; halted = false }

same_registers : (c : Circuit) → IsStart c → registers c.counters c.scale c.pointer c.returns ≡ c
same_registers c begun =
    sym (λ i. record {
      pc = begun.pc i;
      counters = c.counters;
      scale = c.scale;
      pointer = c.pointer;
      returns = c.returns;
      halted =
          begun.running i;
    })

module _ (counters : Counters) (scale pointer : ℕ) (returns : List ℕ) (four : length returns ≡ 4) (other : ℕ) where
  abbrev at : ℕ → Run
  at n = run_after (example_reads other) n (begin (registers counters scale pointer returns))

  back : (at 4).circuit.pc ≡ 3
  unfolding instruction_of
  back = grind (arith, get_or-set_same)

  stays : (n : ℕ) → (at (suc (suc (suc (suc (suc n)))))).circuit.halted ≡ true
  unfolding instruction_of
  stays zero = grind (arith, format_of, back)
  stays (suc n) = grind (arith, (stays n))

  reads_now : (n : ℕ) → (at n).circuit.halted ≡ false → ReadsNow (memory_for Board) (example_reads other n) (at n)
  unfolding instruction_of
  reads_now (suc (suc (suc (suc (suc n))))) going = grind (arith, stays)
  reads_now n going = grind (arith, format_of, back)

-- ---- all

shallow : (e : Entry) → Contains example_list e → e.depth ≤ MOST_DEPTH
shallow e h1 = grind (arith)

safe : Safe (memory_for Board) screen 7 1
safe = let good = worked_example Board in
    good_is_safe Exact (memory_for Board) screen example_list 20000 7 1 good.memory shallow good.exact good.frame

whole : IsWindow screen
whole = grind (arith, ints)

pub worked_circuit : WorkedCircuit
worked_circuit =
    let good = worked_example Board in
    record {
      start = record {
        pc = refl;
        x = omega arith;
        y = omega arith;
        scale = omega arith;
        pointer = omega arith;
        four = refl;
        running =
            refl;
      };
      reads = λ c other begun. subst (λ (k : Circuit). ReadsAs (memory_for Board) (example_reads other) (begin k)) (same_registers c begun)
          (λ n. reads_now c.counters c.scale c.pointer c.returns begun.four other n);
      safe = safe_on_circuit (memory_for Board) screen 7 1 good.memory refl (inl whole) safe;
      counts = counts_on_circuit (memory_for Board) screen 7 1 good.memory refl safe
          (exact_is_exact (memory_for Board) screen example_list 20000 7 1 good.memory shallow good.exact good.frame);
    }
