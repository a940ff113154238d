-- The laws, over the definitions alone. They are for every map, window and mode, but ExactIsExact is for the mode Exact, those of the
-- circuit are for the board, and SafeIsSafeOnCircuit for windows as calls take them.
use Rattle.dvg_words.specs.Values.{Source}
use Rattle.dvg_words.specs.declared.machine.Machine.{Machine}
use Rattle.std.specs.Prelude.{◌≡◌, ℕ, ℤ, ◌+◌, ◌<◌, ◌≤◌, ◌⊎◌, ◌+ℤ◌, ◌≤ℤ◌, length, List, [], ◌∷◌, ◌++◌, Contains}
use Rattle.dvg_words.specs.Values.{Window, IsWindowOrZone}
use Rattle.dvg_words.specs.declared.machine.Machine.TheVariants.{Board}
use Rattle.dvg_words.specs.declared.instruction.Instr.TheVariants.{Draw as Draws, Labs}
use Rattle.dvg_words.specs.declared.instruction.Instr.{Instr}
use Rattle.dvg_words.specs.declared.instruction.Cell.TheVariants.{Holds}
use Rattle.dvg_words.specs.Decoding.{word_count, cell_at}
use Rattle.dvg_words.specs.Memory.{Memory, Rom, IsMemory, rom_word, frame_word}
use Rattle.dvg_words.specs.declared.beam.Point.{Point}
use Rattle.dvg_words.specs.Beam.{InWindow}
use Rattle.dvg_words.specs.Generator.{Stroke, State, Status, Running, Reached, start, places, lit_by, next_status}
use Rattle.dvg_words.specs.Laws.{state_of}
use Rattle.dvg_cert.specs.declared.entry.Key.{Key}
use Rattle.dvg_cert.specs.declared.entry.End.{End}
use Rattle.dvg_cert.specs.declared.entry.Entry.{Entry}
use Rattle.dvg_cert.specs.declared.limits.TheConstants.{MOST_DEPTH}
use Rattle.dvg_items.specs.declared.item.Kind.{Kind}
use Rattle.dvg_items.specs.declared.item.Kind.TheVariants.{Shape, Frame}
use Rattle.dvg_items.specs.declared.item.Item.{Item}
use Rattle.dvg_items.specs.Items.{LeadsTo}
use Rattle.dvg_items.specs.Known.{Context, scale_before, place_before}
use Rattle.dvg_check.specs.Rules.{Mode, Exact, Good, GoodFrame}
use Rattle.dvg_check.specs.FirstFault.{ShapeFault, FirstShapeFault, FrameFault, FirstFrameFault}
use Rattle.dvg_check.specs.Behaving.{ScaleFits, PlaceFits, Behaves}
use Rattle.dvg_check.specs.Safety.{Safe}
use Rattle.dvg_circuit.specs.Counters.{counters_after}
use Rattle.dvg_circuit.specs.Laws.{moved, twelve_bits}
use Rattle.dvg_circuit.specs.declared.lit.LitDraw.{LitDraw}
use Rattle.dvg_circuit.specs.Showing.{IsPlaceOf}
use Rattle.dvg_check.specs.Circuit.{SafeRuns, SafeOnCircuit, CountsOnCircuit}
pub use Rattle.dvg_check.specs.Safety.{CountsAtHalt}

-- ---- one item

-- what a draw or a LABS lights, on the way from one place to another
abbrev pub lit_on : Instr → Point → Point → List Stroke
lit_on (Draws d) from to = lit_by d.bright (record { from = from; to = to })
lit_on i from to = []

-- the instruction is VCTR, SVEC or LABS
abbrev pub IsDrawOrLabs : Instr → Type 0
IsDrawOrLabs (Draws d) = Unit {0}
IsDrawOrLabs (Labs x y gscale) = Unit {0}
IsDrawOrLabs i = ⊥

-- the state just past an item, after one step
pub record Past (m : Memory) (base : Point) (i : Item) (known : End) (scale : Key) (s t : State) : Type 0 where
  pub step : next_status m s ≡ Running t
  pub pc : t.pc ≡ i.at + word_count i.format
  pub place : PlaceFits known base t.place
  pub scale_is : ScaleFits scale t.scale
  pub fetched : t.fetched ≡ places i.format i.at ++ s.fetched
  pub strokes : t.strokes ≡ lit_on i.instr s.place t.place ++ s.strokes
  pub return_stack : t.return_stack ≡ s.return_stack
  pub max_stack : t.max_stack ≡ s.max_stack

-- where items are read: the items of a shape in the ROM, the items of a frame in the frame
abbrev pub word_of : Kind → Memory → Source
word_of Shape m = rom_word m.rom
word_of Frame m = frame_word m.rom.machine m.frame

-- one step past a draw or a LABS: if the state before fits what is known there, so does the state after
abbrev pub OneItem : Type 0
OneItem =
    (m : Memory) (c : Context) (first : ℕ) (earlier : List Item) (i : Item) (base : Point) (s : State)
    → IsMemory m
    → c.machine ≡ m.rom.machine
    → LeadsTo c.kind (word_of c.kind m) first earlier i.at
    → cell_at (word_of c.kind m) i.at ≡ Holds i.format i.instr
    → IsDrawOrLabs i.instr
    → s.pc ≡ i.at
    → PlaceFits (place_before c earlier) base s.place
    → ScaleFits (scale_before c earlier) s.scale
    → (t : State) × Past m base i (place_before c (i ∷ earlier)) (scale_before c (i ∷ earlier)) s t

-- ---- shapes

-- a good shape behaves as claimed, if each shape with fewer words does
abbrev pub OneShape : Mode → Type 0
OneShape mode =
    (m : Memory) (w : Window) (list : List Entry) (e : Entry)
    → IsMemory m
    → Good mode w m.rom list
    → Contains list e
    → ((f : Entry) → Contains list f → f.words < e.words → Behaves mode m w f)
    → Behaves mode m w e

-- all good shapes behave as claimed
abbrev pub AllShapes : Mode → Type 0
AllShapes mode =
    (m : Memory) (w : Window) (list : List Entry)
    → IsMemory m
    → Good mode w m.rom list
    → (e : Entry) → Contains list e → Behaves mode m w e

-- ---- frames

-- a good frame over good shapes is safe
abbrev pub GoodIsSafe : Type 0
GoodIsSafe =
    (mode : Mode) (m : Memory) (w : Window) (list : List Entry) (budget words depth : ℕ)
    → IsMemory m
    → ((e : Entry) → Contains list e → e.depth ≤ MOST_DEPTH)
    → Good mode w m.rom list
    → GoodFrame w m.rom.machine m.frame list budget words depth
    → Safe m w words depth

-- if the counts of the shapes are exact, the counts of the frame are exact too
abbrev pub ExactIsExact : Type 0
ExactIsExact =
    (m : Memory) (w : Window) (list : List Entry) (budget words depth : ℕ)
    → IsMemory m
    → ((e : Entry) → Contains list e → e.depth ≤ MOST_DEPTH)
    → Good Exact w m.rom list
    → GoodFrame w m.rom.machine m.frame list budget words depth
    → CountsAtHalt m words depth

-- a frame has at most one first fault
abbrev pub OneFault : Type 0
OneFault =
    (w : Window) (machine : Machine) (words : List ℕ) (list : List Entry) (budget : ℕ) (f g : FrameFault)
    → FirstFrameFault w machine words list budget f → FirstFrameFault w machine words list budget g → f ≡ g

-- a good frame has no fault
abbrev pub NoFault : Type 0
NoFault =
    (w : Window) (machine : Machine) (words : List ℕ) (list : List Entry) (budget count depth : ℕ) (f : FrameFault)
    → GoodFrame w machine words list budget count depth → FirstFrameFault w machine words list budget f → ⊥

-- a certificate has at most one first fault
abbrev pub OneShapeFault : Type 0
OneShapeFault =
    (mode : Mode) (w : Window) (rom : Rom) (list : List Entry) (f g : ShapeFault)
    → FirstShapeFault mode w rom list f → FirstShapeFault mode w rom list g → f ≡ g

-- a certificate of good shapes has no fault
abbrev pub NoShapeFault : Type 0
NoShapeFault =
    (mode : Mode) (w : Window) (rom : Rom) (list : List Entry) (f : ShapeFault)
    → Good mode w rom list → FirstShapeFault mode w rom list f → ⊥

-- two counts and two depths are the same
pub record SameCounts (count depth count' depth' : ℕ) : Type 0 where
  pub count_is : count ≡ count'
  pub depth_is : depth ≡ depth'

-- a good frame has one count and one depth
abbrev pub OneCount : Type 0
OneCount =
    (w : Window) (machine : Machine) (words : List ℕ) (list : List Entry) (budget count depth count' depth' : ℕ)
    → GoodFrame w machine words list budget count depth → GoodFrame w machine words list budget count' depth'
    → SameCounts count depth count' depth'

-- ---- strokes

-- the coordinate lies between two others, in either order
abbrev pub IsBetween : ℤ → ℤ → ℤ → Type 0
IsBetween a b v = ((a ≤ℤ v) × (v ≤ℤ b)) ⊎ ((b ≤ℤ v) × (v ≤ℤ a))

-- a straight stroke lies between its ends on each axis, so it lies in the window if both ends do
abbrev pub StrokeInWindow : Type 0
StrokeInWindow = (w : Window) (a b p : Point) → InWindow w a → InWindow w b → IsBetween a.x b.x p.x → IsBetween a.y b.y p.y → InWindow w p

-- the point lies between the ends of a stroke on each axis, as each point of a straight stroke does
abbrev pub IsOn : Stroke → Point → Type 0
IsOn stroke p = IsBetween stroke.from.x stroke.to.x p.x × IsBetween stroke.from.y stroke.to.y p.y

-- P holds of every state of every run over a safe memory
abbrev pub InEachRun : (Memory → Window → ℕ → ℕ → State → Type 0) → Type 0
InEachRun P =
    (m : Memory) (w : Window) (words depth : ℕ) → Safe m w words depth
    → (place : Point) (scale steps : ℕ) (after : Status) → scale ≤ 15 → Reached m steps (Running (start place scale)) after
    → P m w words depth (state_of after)

-- no point of a lit stroke lies outside the window
abbrev pub SafeStrokes : Type 0
SafeStrokes = InEachRun (λ m w words depth s. (stroke : Stroke) → Contains s.strokes stroke → (p : Point) → IsOn stroke p → InWindow w p)

-- at most `depth` return places are stored, and at most four
abbrev pub SafeStack : Type 0
SafeStack = InEachRun (λ m w words depth s. (length s.return_stack ≤ depth) × (length s.return_stack ≤ 4))

-- ---- the circuit

-- at each count of the lit draw, which moves on from a place, the counters are at a place within the bounds
pub record IsDrawAtPlaces (w : Window) (l : LitDraw) : Type 0 where
  pub x : ℤ
  pub y : ℤ
  pub inside : (n : ℕ) → n ≤ l.counts → IsPlaceOf w (x +ℤ moved l.draw.dx n) (y +ℤ moved l.draw.dy n)
  pub counters :
      (n : ℕ) → n ≤ l.counts
      → counters_after l.draw l.from n ≡ record { x = twelve_bits (x +ℤ moved l.draw.dx n); y = twelve_bits (y +ℤ moved l.draw.dy n) }

-- what is safe on the board's generator, whatever the bounds are, is safe on its circuit, whose lit draws stay within them
abbrev pub SafeIsWithinOnCircuit : Type 0
SafeIsWithinOnCircuit =
    (m : Memory) (w : Window) (words depth : ℕ)
    → IsMemory m → m.rom.machine ≡ Board → Safe m w words depth → SafeRuns m (IsDrawAtPlaces w) words depth

-- in a window as calls take them, what is shown of these draws is told, too
abbrev pub SafeIsSafeOnCircuit : Type 0
SafeIsSafeOnCircuit =
    (m : Memory) (w : Window) (words depth : ℕ)
    → IsMemory m → m.rom.machine ≡ Board → IsWindowOrZone w → Safe m w words depth → SafeOnCircuit m w words depth

-- what is safe on the board's generator with exact counts has the same counts on its circuit
abbrev pub CountsAreOnCircuit : Type 0
CountsAreOnCircuit =
    (m : Memory) (w : Window) (words depth : ℕ)
    → IsMemory m → m.rom.machine ≡ Board → Safe m w words depth → CountsAtHalt m words depth → CountsOnCircuit m words depth
