-- What is accepted is safe, and what a ROM comes to.
use Rattle.dvg_check.proofs.Common.{List, subst, ◌≡◌, ℕ, Good, GoodFrame, Exact, Err, Ok, Result, IfOk, IsFrame, IsWindowOrZone, Means, Shapes, IsJudged, listed_claim, Memory, IsMemory, Entry, Contains, ◌≤◌, arith, length, Machine, Mode, Window, IsRomLength, Certificate, rom_on}
use Rattle.dvg_check.specs.Verdict.{Yes, Refusal, PartsVerdict, RomVerdict}
use Rattle.dvg_check.proofs.Circuit.{safe_on_circuit, counts_on_circuit}
use Rattle.dvg_check.specs.declared.frames.Accepted.{Accepted}
use Rattle.dvg_check.proofs.FrameLaws.{good_is_safe, exact_is_exact}

-- what the acceptance of a frame over judged shapes means
abbrev pub IsAccepted : {F : Type 0} → List ℕ → Result Accepted F → Shapes → Type 0
IsAccepted frame answer shapes =
    IfOk answer (λ yes. Means shapes.mode (record { frame = frame; rom = shapes.rom }) shapes.window yes.words yes.depth)

pub accepted : {F : Type 0} (shapes : Shapes) (frame : List ℕ) (budget : ℕ) (answer : Result Accepted F) → IsJudged shapes
    → IsFrame frame → IsWindowOrZone shapes.window
    → IfOk answer (λ yes. GoodFrame shapes.window shapes.rom.machine frame shapes.list budget yes.words yes.depth)
    → IsAccepted frame answer shapes
accepted shapes frame budget (Ok a) h whole fits good =
    let m : Memory = record { frame = frame; rom = shapes.rom } in
    let mem : IsMemory m = record { frame = whole; rom = h.rom } in
    let shallow : (e : Entry) → Contains shapes.list e → e.depth ≤ 3 = λ e listed. (listed_claim shapes.list e h.list listed).depth in
    let safe = good_is_safe shapes.mode m shapes.window shapes.list budget a.words a.depth mem shallow h.good good in
    let exact = λ (is : shapes.mode ≡ Exact). exact_is_exact m shapes.window shapes.list budget a.words a.depth mem shallow
    (subst (λ mode. Good mode shapes.window shapes.rom shapes.list) is h.good) good in
    record {
      safe = safe;
      exact = exact;
      circuit = λ board. safe_on_circuit m shapes.window a.words a.depth mem board fits safe;
      circuit_exact = λ board is. counts_on_circuit m shapes.window a.words a.depth mem board safe (exact is);
    }
accepted shapes frame budget (Err f) h whole fits good = tt

-- what a ROM of the right length comes to
pub over_rom : (machine : Machine) (mode : Mode) (w : Window) (rom : List ℕ) (c : Certificate) (words : List ℕ) (budget : ℕ)
    (answer : Result Yes Refusal) → IsRomLength c.map (length rom)
    → PartsVerdict mode w (rom_on machine c.map rom) c.entries words budget answer → RomVerdict machine mode w rom c words budget answer
over_rom machine mode w rom c words budget answer long h = grind (arith)
