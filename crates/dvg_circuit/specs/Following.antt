-- The circuit follows the generator of the board for as long as that has no fault: what is shown of the one is shown of the other.
use Rattle.std.specs.Prelude.{◌≡◌, ℕ, suc, ℤ, pos, ◌+◌, ◌%◌, ◌≤◌, ◌+ℤ◌, ◌*ℤ◌, true, false, List, [], ◌∷◌, length, reverse, slice_index}
use Rattle.std.specs.List.{AllZip}
use Rattle.dvg_words.specs.declared.machine.Machine.TheVariants.{Board}
use Rattle.dvg_words.specs.declared.beam.Point.{Point}
use Rattle.dvg_words.specs.Memory.{Memory, IsMemory}
use Rattle.dvg_words.specs.Generator.{Stroke, State, Status, Running, Halted, Fault, Reached, start}
use Rattle.dvg_circuit.specs.Counters.{Counters, counters_after}
use Rattle.dvg_circuit.specs.Circuit.{Circuit, LitDraw, Reads, Run, run_after, begin}
use Rattle.dvg_circuit.specs.Premises.{IsStart, ReadsAs}
use Rattle.dvg_circuit.specs.Laws.{IsBetween, moved, twelve_bits}

-- ---- agreeing

-- the beam is at a whole screen place, and the counters hold its twelve bits
pub record IsSamePlace (p : Point) (c : Counters) : Type 0 where
  pub x : ℤ
  pub y : ℤ
  pub place : p ≡ record { x = pos 1024 *ℤ x; y = pos 1024 *ℤ y }
  pub counters : c ≡ record { x = twelve_bits x; y = twelve_bits y }

-- the number lies between these two: wherever both of them lie between bounds, it does, too
abbrev pub IsAmong : ℤ → ℤ → ℤ → Type 0
IsAmong a b p = (low high : ℤ) → IsBetween low high a → IsBetween low high b → IsBetween low high p

-- the counters hold the twelve bits of a whole screen place between the ends of the stroke
pub record IsOnStroke (c : Counters) (stroke : Stroke) : Type 0 where
  pub place : Point
  pub same : IsSamePlace place c
  pub across : IsAmong stroke.from.x stroke.to.x place.x
  pub up : IsAmong stroke.from.y stroke.to.y place.y

-- the lit draw is this stroke: it begins where the counters hold the twelve bits of the one end, and moves from there to the other
pub record IsDrawnAs (stroke : Stroke) (l : LitDraw) : Type 0 where
  pub from : IsSamePlace stroke.from l.from
  pub to :
      stroke.to
      ≡ record {
        x = pos 1024 *ℤ (from.x +ℤ moved l.draw.dx l.counts);
        y = pos 1024 *ℤ (from.y +ℤ moved l.draw.dy l.counts);
      }

-- the return places, the latest first, stand where calls store them, if the stack pointer was this when none was stored
abbrev pub AreStored : ℕ → List ℕ → List ℕ → Type 0
AreStored base returns [] = Unit {0}
AreStored base returns (back ∷ rest) =
    (slice_index returns ((base + suc (length rest)) % 4) ≡ back) × AreStored base returns rest

-- a state of the generator and a run of the circuit, whose stack pointer was this at the start
pub record Agrees (base : ℕ) (s : State) (r : Run) : Type 0 where
  pub pc : r.circuit.pc ≡ s.pc
  pub place : IsSamePlace s.place r.circuit.counters
  pub scale : r.circuit.scale ≡ s.scale
  pub pointer : r.circuit.pointer ≡ (base + length s.return_stack) % 16
  pub stored : AreStored base r.circuit.returns s.return_stack
  pub four : length r.circuit.returns ≡ 4
  pub fetched : r.fetched ≡ reverse s.fetched
  -- the draws that lit the beam are the lit strokes, one by one
  pub lit : AllZip IsDrawnAs (reverse s.strokes) r.lit

-- while the generator runs the circuit does, and halts where it halts; from a fault on nothing is said
abbrev pub AgreesWith : ℕ → Status → Run → Type 0
AgreesWith base (Running s) r = (r.circuit.halted ≡ false) × Agrees base s r
AgreesWith base (Halted s) r = (r.circuit.halted ≡ true) × Agrees base s r
AgreesWith base (Fault s) r = Unit {0}

-- ---- the laws

-- a lit draw is on its stroke at each count
abbrev pub DrawnOnStroke : Type 0
DrawnOnStroke =
    (stroke : Stroke) (l : LitDraw) → IsDrawnAs stroke l → (n : ℕ) → n ≤ l.counts → IsOnStroke (counters_after l.draw l.from n) stroke

-- after each number of steps that the generator takes from a place with the counters' twelve bits, at the circuit's scale, the two
-- agree, whatever else the registers held at the start and whatever else the memory reads
abbrev pub CircuitFollows : Type 0
CircuitFollows =
    (m : Memory) (reads : ℕ → Reads) (c : Circuit) (place : Point) (steps : ℕ) (after : Status)
    → IsMemory m → m.rom.machine ≡ Board → IsStart c → ReadsAs m reads (begin c) → IsSamePlace place c.counters
    → Reached m steps (Running (start place c.scale)) after
    → AgreesWith c.pointer after (run_after reads steps (begin c))
