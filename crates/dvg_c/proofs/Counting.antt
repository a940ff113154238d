-- Clocks are told where they were counted alone.
use Rattle.dvg_c.proofs.Common.{◌≡◌, ◌∙◌, ap, sym, subst, refl, ℕ, List, Ok, Err, Some, Option, Result, MemoryMap, numbered, machine_of}
use Rattle.std.specs.Prelude.{IfSome, None}
use Rattle.dvg_words.specs.Memory.{rom_on, words_of}
use Rattle.dvg_words.specs.declared.machine.Machine.TheVariants.{Board}
use Rattle.dvg_check.specs.declared.verdict.Refusal.{Refusal}
use Rattle.dvg_check.specs.declared.verdict.Refusal.TheVariants as refusal
use Rattle.dvg_check.specs.declared.verdict.Yes.{Yes}
use Rattle.dvg_clocks.specs.Clocks.{TakenOnCircuit, clocks_of_instr}
use Rattle.dvg_clocks.specs.declared.clocks.TheConstants.{DVG_STATES}
use Rattle.dvg_clocks.specs.declared.clocks.ClockRange.{ClockRange}
use Rattle.dvg_make.specs.declared.fault.EntryFault.{EntryFault}
use Rattle.dvg_make.specs.declared.fault.EntryFault.TheVariants as fault
use Rattle.dvg_make.specs.declared.judging.FrameRefusal.{FrameRefusal}
use Rattle.dvg_make.specs.declared.judging.FrameRefusal.TheVariants.{Check, Make, NoMemory}
use Rattle.dvg_c.specs.Alone.{ClocksHold}
use Rattle.dvg_c.specs.Told.{told_fault, told_own, told_refusal, told_timed}
use Rattle.dvg_c.specs.declared.answer.Answer.{Answer}

of_fault : (why : EntryFault) → (told_fault why).clocks ≡ 0
of_fault (fault.Unstraight word) = refl
of_fault fault.Deep = refl
of_fault fault.TooManyWords = refl
of_fault fault.TooManyEntries = refl
of_fault fault.Memory = refl

of_refusal : (r : Refusal) → (told_refusal r).clocks ≡ 0
of_refusal (refusal.Image f) = refl
of_refusal refusal.BudgetRange = refl
of_refusal (refusal.Cert f) = refl
of_refusal refusal.IndexMemory = refl
of_refusal (refusal.Shape f) = refl
of_refusal (refusal.Frame f) = refl

untold : (v : Result Yes FrameRefusal) → (told_own v).clocks ≡ 0
untold (Ok y) = refl
untold (Err (Make at why)) = of_fault why
untold (Err NoMemory) = refl
untold (Err (Check r)) = of_refusal r

module _ (machine : ℕ) (rom : List ℕ) (map : MemoryMap) (frame : List ℕ) (a : Answer) where
  abbrev Runs : ClockRange → Type 0
  Runs = TakenOnCircuit (clocks_of_instr DVG_STATES) (record { frame = words_of frame; rom = rom_on (machine_of machine) map rom })

  pub hold : (v : Result Yes FrameRefusal) (clocks : Option ClockRange) → a ≡ told_timed v clocks
      → IfSome clocks (λ (c : ClockRange). (machine_of machine ≡ Board) × Runs c) → ClocksHold machine rom map frame a
  hold v None is runs some = absurd (some (ap (λ (x : Answer). x.clocks) is ∙ plain v))
    where
      plain : (v : Result Yes FrameRefusal) → (told_timed v None).clocks ≡ 0
      plain (Ok y) = refl
      plain (Err r) = untold (Err r)
  hold (Err r) (Some c) is runs some = absurd (some (ap (λ (x : Answer). x.clocks) is ∙ untold (Err r)))
  hold (Ok y) (Some c) is runs some =
      (runs.0, c.least, subst (λ m. Runs (record { least = c.least; most = m })) (sym (ap (λ (x : Answer). x.clocks) is)) runs.1)

  -- a number alone tells none
  pub none : (n : ℕ) → a ≡ numbered n → ClocksHold machine rom map frame a
  none n is some = absurd (some (ap (λ (x : Answer). x.clocks) is))
