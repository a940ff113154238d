-- Where a board shows what is lit on a stroke: counters tell places only by twelve bits, and bit 10 blanks.
use Rattle.std.specs.Prelude.{◌≡◌, ℕ, ℤ, pos, ◌*◌, ◌≤◌, ◌+ℤ◌, reverse}
use Rattle.std.specs.List.{AllByRecursion, AllZip}
use Rattle.dvg_words.specs.Values.{Window, IsWindow, IsWindowOrZone, clipped}
use Rattle.dvg_words.specs.declared.beam.Point.{Point}
use Rattle.dvg_words.specs.Beam.{InWindow, screen}
use Rattle.dvg_words.specs.declared.machine.Machine.TheVariants.{Board}
use Rattle.dvg_words.specs.Memory.{Memory, IsMemory}
use Rattle.dvg_words.specs.Generator.{Stroke, State, Running, Halted, Reached, start}
use Rattle.dvg_circuit.specs.Counters.{Counters, IsShown, counters_after}
use Rattle.dvg_circuit.specs.Laws.{IsBetween, moved, twelve_bits}
use Rattle.dvg_circuit.specs.Circuit.{Circuit, LitDraw, Reads, run_after, begin}
use Rattle.dvg_circuit.specs.Premises.{IsStart, ReadsAs}
use Rattle.dvg_circuit.specs.Following.{IsSamePlace, IsOnStroke}

-- the whole place is one of the window
abbrev pub IsPlaceOf : Window → ℤ → ℤ → Type 0
IsPlaceOf w x y = IsBetween w.x_min w.x_max x × IsBetween w.y_min w.y_max y

-- the counters are at this place of the window, and the board shows it just if it is on the screen
pub record ShowsPlace (w : Window) (x y : ℤ) (c : Counters) : Type 0 where
  pub inside : IsPlaceOf w x y
  pub counters : c ≡ record { x = twelve_bits x; y = twelve_bits y }
  -- what isn't blanked is the place itself, on the screen
  pub shown : IsShown c → IsPlaceOf screen x y × (x ≡ pos c.x) × (y ≡ pos c.y)
  -- and what is on the screen isn't blanked
  pub screen : IsPlaceOf screen x y → IsShown c

-- at each count of the lit draw, which moves on from a place, the counters are at a place of the window, and it is shown just if it
-- is on the screen: so the board shows of the draw just the part that lies there, and nothing anywhere else
pub record IsDrawInWindow (w : Window) (l : LitDraw) : Type 0 where
  pub x : ℤ
  pub y : ℤ
  pub each :
      (n : ℕ) → n ≤ l.counts → ShowsPlace w (x +ℤ moved l.draw.dx n) (y +ℤ moved l.draw.dy n) (counters_after l.draw l.from n)

-- the counters are at the place itself, which is one of the screen
pub record IsShownAt (p : Point) (c : Counters) : Type 0 where
  pub x : p.x ≡ pos (1024 * c.x)
  pub y : p.y ≡ pos (1024 * c.y)
  pub x_inside : c.x ≤ 1023
  pub y_inside : c.y ≤ 1023

-- on a stroke from a place of the window to one of it, the counters are at places of the window
abbrev pub LitInWindow : Type 0
LitInWindow =
    (w : Window) (stroke : Stroke) (c : Counters) (on : IsOnStroke c stroke) → InWindow w stroke.from → InWindow w stroke.to
    → IsPlaceOf w on.same.x on.same.y

-- of a place of a window, which may be the zone, the board shows just what is on the screen; of a window of the screen, all
pub record ShownInWindow : Type 0 where
  pub place :
      (w : Window) (x y : ℤ) → IsWindowOrZone w → IsPlaceOf w x y
      → ShowsPlace w x y (record { x = twelve_bits x; y = twelve_bits y })
  pub window : (w : Window) (x y : ℤ) (c : Counters) → IsWindow w → ShowsPlace w x y c → IsShown c

-- on a stroke that stays in the zone that a board clips, what is not blanked is shown where the generator has it, on the screen
abbrev pub LitOnScreen : Type 0
LitOnScreen =
    (stroke : Stroke) (c : Counters) (on : IsOnStroke c stroke) → InWindow clipped stroke.from → InWindow clipped stroke.to → IsShown c
    → IsShownAt on.place c

-- and what is on the screen is not blanked
abbrev pub ScreenIsShown : Type 0
ScreenIsShown = (p : Point) (c : Counters) → IsSamePlace p c → InWindow screen p → IsShown c

-- ---- what the board clips

-- both ends of a stroke lie in the zone
abbrev pub StaysInZone : Stroke → Type 0
StaysInZone stroke = InWindow clipped stroke.from × InWindow clipped stroke.to

-- the counters are on the stroke; if they are shown, then there, on the screen; and they are, if they are on the screen
pub record IsClipped (c : Counters) (stroke : Stroke) : Type 0 where
  pub on : IsOnStroke c stroke
  pub shown : IsShown c → IsShownAt on.place c
  pub screen : InWindow screen on.place → IsShown c

-- at each count of the lit draw
abbrev pub IsDrawClipped : Stroke → LitDraw → Type 0
IsDrawClipped stroke l = (n : ℕ) → n ≤ l.counts → IsClipped (counters_after l.draw l.from n) stroke

-- while the generator runs, and where it halts, if its lit strokes stay in the zone, then at each count of them the circuit shows
-- just what lies on the screen, as itself, and lights nothing else
abbrev pub ClippedOnCircuit : Type 0
ClippedOnCircuit =
    (m : Memory) (reads : ℕ → Reads) (c : Circuit) (place : Point) (steps : ℕ) (s : State)
    → IsMemory m → m.rom.machine ≡ Board → IsStart c → ReadsAs m reads (begin c) → IsSamePlace place c.counters
    → (Reached m steps (Running (start place c.scale)) (Running s) → AllByRecursion StaysInZone s.strokes
    → AllZip IsDrawClipped (reverse s.strokes) (run_after reads steps (begin c)).lit)
    × (Reached m steps (Running (start place c.scale)) (Halted s) → AllByRecursion StaysInZone s.strokes
    → AllZip IsDrawClipped (reverse s.strokes) (run_after reads steps (begin c)).lit)
