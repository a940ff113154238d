-- What the plain structs that C sees stand for. All of it is this project's own.
use Rattle.std.specs.Prelude.{◌≡◌, ◌==◌, ℕ, Option, Some, None, Result, Ok, Err, if◌then◌else◌}
use Rattle.dvg_words.specs.declared.machine.Machine.{Machine}
use Rattle.dvg_words.specs.declared.machine.Machine.TheVariants.{Profile, Board}
use Rattle.dvg_words.specs.Values.{Window, MemoryMap}
use Rattle.dvg_cert.specs.declared.entry.Key.{Key}
use Rattle.dvg_cert.specs.declared.entry.Key.TheVariants.{At, Any}
use Rattle.dvg_check.specs.Numbers.{refusal_number}
use Rattle.dvg_check.specs.declared.fault.Mode.{Mode}
use Rattle.dvg_check.specs.declared.fault.Mode.TheVariants.{Bound, Exact}
use Rattle.dvg_check.specs.declared.verdict.Yes.{Yes}
use Rattle.dvg_clocks.specs.declared.clocks.ClockRange.{ClockRange}
use Rattle.dvg_check.specs.declared.verdict.Refusal.{Refusal}
use Rattle.dvg_check.specs.declared.verdict.Refusal.TheVariants as refusal
use Rattle.dvg_make.specs.declared.fault.EntryFault.{EntryFault}
use Rattle.dvg_make.specs.declared.fault.EntryFault.TheVariants as fault
use Rattle.dvg_make.specs.declared.judging.FrameRefusal.{FrameRefusal}
use Rattle.dvg_make.specs.declared.judging.FrameRefusal.TheVariants.{Make, NoMemory, Check}
use Rattle.dvg_c.specs.declared.passed.WindowEnds.{WindowEnds}
use Rattle.dvg_c.specs.declared.passed.MapEnds.{MapEnds}
use Rattle.dvg_c.specs.declared.answer.Answer.{Answer}
use Rattle.dvg_c.specs.declared.answer.TheConstants.{ANY_SCALE}
use Rattle.dvg_c.specs.declared.passed.TheConstants.{BOARD, EXACT}

-- the machine that a number stands for: 1 for the board
abbrev pub machine_of : ℕ → Machine
machine_of n = if n == BOARD then Board else Profile

-- how counts are judged, that a number stands for: 1 for exact counts
abbrev pub mode_of : ℕ → Mode
mode_of n = if n == EXACT then Exact else Bound

-- the window between these ends
abbrev pub window_of : WindowEnds → Window
window_of w = record { x_min = w.x_min; x_max = w.x_max; y_min = w.y_min; y_max = w.y_max }

-- the map between these ends
abbrev pub map_of : MapEnds → MemoryMap
map_of m = record { rom_first = m.first; rom_last = m.last }

-- what C passes was tested: the result is what stands for it, if that is in range, and else there is none
abbrev pub Tested : {A : Type 0} → (A → Type 0) → A → Option A → Type 0
Tested InRange x (Some y) = (y ≡ x) × InRange x
Tested InRange x None = InRange x → ⊥

-- a global scale, or the number after the last for any
abbrev pub told_key : Key → ℕ
told_key (At n) = n
told_key Any = ANY_SCALE

-- a number alone
abbrev pub numbered : ℕ → Answer
numbered n = record { clocks = 0; shapes = 0; words = 0; line = 0; word = 0; shape = 0; scale = 0; depth = 0; number = n; call = 0 }

-- what is accepted, with its counts
abbrev pub told_yes : Yes → Answer
told_yes y = record (numbered 0) { shapes = y.shapes; words = y.words; depth = y.depth }

-- the counts of what is accepted
abbrev pub yes_of : Answer → Yes
yes_of a = record { shapes = a.shapes; words = a.words; depth = a.depth }

-- a refusal, with its number and its place
abbrev pub told_refusal : Refusal → Answer
told_refusal (refusal.Cert f) = record (numbered (refusal_number (refusal.Cert f))) { line = f.line }
told_refusal (refusal.Shape f) =
    record (numbered (refusal_number (refusal.Shape f))) { shape = f.addr; scale = told_key f.key; word = f.word }
told_refusal (refusal.Frame f) = record (numbered (refusal_number (refusal.Frame f))) { word = f.word }
told_refusal r = numbered (refusal_number r)

-- a verdict in plain numbers
abbrev pub told : Result Yes Refusal → Answer
told (Ok y) = told_yes y
told (Err r) = told_refusal r

-- why an entry can't be made
abbrev pub told_fault : EntryFault → Answer
told_fault (fault.Unstraight word) = record (numbered 60) { word = word }
told_fault fault.Deep = numbered 61
told_fault fault.TooManyWords = numbered 62
told_fault fault.TooManyEntries = numbered 62
told_fault fault.Memory = numbered 63

-- a verdict on a frame by its own certificate; a refusal of the maker with the frame's call
abbrev pub told_own : Result Yes FrameRefusal → Answer
told_own (Ok y) = told_yes y
told_own (Err (Make at why)) = record (told_fault why) { call = at }
told_own (Err NoMemory) = told_fault fault.Memory
told_own (Err (Check r)) = told_refusal r

-- the same; an accepted frame has also the most clocks, if they were counted
abbrev pub told_timed : Result Yes FrameRefusal → Option ClockRange → Answer
told_timed (Ok y) (Some clocks) = record (told_yes y) { clocks = clocks.most }
told_timed v clocks = told_own v

-- the answer tells a verdict that is this one
abbrev pub Tells : (Result Yes Refusal → Type 0) → Answer → Type 0
Tells IsVerdict a = (v : Result Yes Refusal) × IsVerdict v × (a ≡ told v)
