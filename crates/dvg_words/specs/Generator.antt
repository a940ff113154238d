-- The generator: its states, its step and its runs.
use Rattle.std.specs.Prelude.{◌≡◌, ℕ, zero, suc, ◌+◌, max, Bool, true, false, List, [], ◌∷◌, ◌++◌, length, Option, Some, None, nat_lt}
use Rattle.dvg_words.specs.Values.{Machine, DrawFields}
use Rattle.dvg_words.specs.declared.instruction.Instr.TheVariants.{Draw as Draws, Labs, Halt, Jsrl, Rtsl, Jmpl}
use Rattle.dvg_words.specs.Decoding.{Instr, Format, Short, Long, Cell, Missing, Odd, Holds, format_of, word_count, cell_at}
use Rattle.dvg_words.specs.Memory.{Memory, word_at}
use Rattle.dvg_words.specs.Beam.{Point, shift, displacement, labs_place}

-- a stroke, by the places where it begins and ends
pub record Stroke : Type 0 where
  pub from : Point
  pub to : Point

-- Lists have the latest first. Beam places are any whole numbers (profile).
pub record State : Type 0 where
  -- the word address of the next instruction
  pub pc : ℕ
  -- where the beam is
  pub place : Point
  -- the global scale, 0 to 15
  pub scale : ℕ
  -- the return places that are stored
  pub return_stack : List ℕ
  -- the greatest number of return places that were stored at once
  pub max_stack : ℕ
  -- the lit strokes so far
  pub strokes : List Stroke
  -- the word addresses that were fetched so far, mapped or not
  pub fetched : List ℕ

-- a running state, a halt or a fault
pub data Status : Type 0 where
  Running : State → Status
  Halted : State → Status
  Fault : State → Status

-- the word addresses of an instruction, the latest first
abbrev pub places : Format → ℕ → List ℕ
places Short p = p ∷ []
places Long p = (p + 1) ∷ p ∷ []

-- what is fetched for the instruction at an address, by the word there
abbrev pub fetches : Option ℕ → ℕ → List ℕ
fetches None p = p ∷ []
fetches (Some first) p = places (format_of first) p

-- the new strokes of a draw: intensity 0 is dark (DVG documentation), every other counts as lit (profile)
abbrev pub lit_by : ℕ → Stroke → List Stroke
lit_by zero stroke = []
lit_by (suc n) stroke = stroke ∷ []

-- a draw moves the beam (DVG documentation)
abbrev pub after_draw : Machine → DrawFields → Format → State → State
after_draw machine d format s =
    let to = shift s.place (displacement machine d s.scale) in
    record s {
      pc = s.pc + word_count format;
      place = to;
      strokes = lit_by d.bright (record { from = s.place; to = to }) ++ s.strokes;
    }

-- the next address is stored, as one more return place
abbrev pub after_store : State → State
after_store s = record s { return_stack = (s.pc + 1) ∷ s.return_stack; max_stack = max s.max_stack (length s.return_stack + 1) }

-- a call stores the next address and jumps; there are four return places (DVG documentation), and a fifth store is a fault (profile)
abbrev pub after_call : Bool → ℕ → State → Status
after_call true to s = Running (record (after_store s) { pc = to })
after_call false to s = Fault s

-- a return takes the last stored address (DVG documentation); with none stored it is a fault (profile)
abbrev pub after_return : List ℕ → State → Status
after_return [] s = Fault s
after_return (back ∷ rest) s = Running (record s { pc = back; return_stack = rest })

-- what an instruction does (DVG documentation)
abbrev pub after_instruction : Machine → Instr → Format → State → Status
after_instruction machine (Draws d) format s = Running (after_draw machine d format s)
after_instruction machine (Labs x y gscale) format s =
    Running (record s { pc = s.pc + word_count format; place = labs_place machine x y; scale = gscale })
after_instruction machine Halt format s = Halted s
after_instruction machine (Jsrl to) format s = after_call (nat_lt (length s.return_stack) 4) to s
after_instruction machine Rtsl format s = after_return s.return_stack s
after_instruction machine (Jmpl to) format s = Running (record s { pc = to })

-- a missing or an odd instruction is a fault (profile)
abbrev pub after_cell : Machine → Cell → State → Status
after_cell machine Missing s = Fault s
after_cell machine Odd s = Fault s
after_cell machine (Holds format i) s = after_instruction machine i format s

-- the state once the words of its instruction are fetched
abbrev pub after_fetch : Memory → State → State
after_fetch m s = record s { fetched = fetches ((word_at m).word s.pc) s.pc ++ s.fetched }

-- the status after a running state
unfoldable pub next_status : Memory → State → Status
next_status m s = after_cell m.rom.machine (cell_at (word_at m) s.pc) (after_fetch m s)

-- one step leads from the first status to the second; none leads on from a halt or a fault
abbrev pub Step : Memory → Status → Status → Type 0
Step m (Running s) after = next_status m s ≡ after
Step m (Halted s) after = ⊥
Step m (Fault s) after = ⊥

-- exactly this many steps lead from the first status to the second
abbrev pub Reached : Memory → ℕ → Status → Status → Type 0
Reached m zero from to = from ≡ to
Reached m (suc n) from to = (mid : Status) × Step m from mid × Reached m n mid to

-- a display starts at word 000 (DVG documentation), with the beam anywhere, at any global scale, no return place stored (profile)
abbrev pub start : Point → ℕ → State
start place scale = record { pc = 0; place = place; scale = scale; return_stack = []; max_stack = 0; strokes = []; fetched = [] }
