-- The verdict on a frame by its own certificate, or over judged shapes, and what a run writes of it. All of it is this project's own.
use Rattle.std.specs.Prelude.{◌≡◌, ℕ, List, ◌≤◌, take, length, Option, Some, None, IfSome, Result, Ok, Err}
use Rattle.dvg_words.specs.declared.machine.Machine.{Machine}
use Rattle.dvg_words.specs.declared.machine.Machine.TheVariants.{Board}
use Rattle.dvg_words.specs.Values.{MemoryMap, Window}
use Rattle.dvg_words.specs.Memory.{Memory, Rom, words_of, rom_on, IsRomLength, IsFrameLength}
use Rattle.dvg_words.specs.declared.image.ImageFault.TheVariants.{RomLength, FrameLength}
use Rattle.dvg_cert.specs.Order.{Certificate}
use Rattle.dvg_check.specs.Means.{Means}
use Rattle.dvg_check.specs.Judged.{Shapes}
use Rattle.dvg_check.specs.Rules.{GoodFrame}
use Rattle.dvg_check.specs.FirstFault.{FirstFrameFault}
use Rattle.dvg_check.specs.declared.fault.Mode.{Mode}
use Rattle.dvg_check.specs.declared.fault.Mode.TheVariants.{Exact}
use Rattle.dvg_check.specs.Verdict.{InRange, RangeRefusal}
use Rattle.dvg_check.specs.declared.verdict.Yes.{Yes}
use Rattle.dvg_check.specs.declared.verdict.Refusal.TheVariants as refusal
use Rattle.dvg_make.specs.declared.judging.FrameRefusal.{FrameRefusal}
use Rattle.dvg_make.specs.declared.judging.FrameRefusal.TheVariants.{Check}
use Rattle.dvg_make.specs.Judging.{AreLeast, FrameRefused, HasCallCause, VerdictByMade}
use Rattle.dvg_clocks.specs.Clocks.{TakenOnCircuit, clocks_of_instr}
use Rattle.dvg_clocks.specs.Judging.{AreClocks, IsSlow}
use Rattle.dvg_clocks.specs.declared.frames.Timing.{Timing}
use Rattle.dvg_clocks.specs.declared.judging.TimedRefusal.{TimedRefusal}
use Rattle.dvg_clocks.specs.declared.judging.TimedRefusal.TheVariants as timed
use Rattle.dvg_clocks.specs.declared.judging.TimedYes.{TimedYes}
use Rattle.dvg_cmd.specs.Detail.{Detail}
use Rattle.dvg_cmd.specs.declared.detail.Detail.TheVariants as details
use Rattle.dvg_cmd.specs.Runs.{MOST_FRAME_READ, IsReadTo}
use Rattle.dvg_cmd.specs.declared.frame_judge.OwnCertificates.{OwnCertificates}
use Rattle.dvg_cmd.specs.declared.timed_judge.LineClocks.{LineClocks}
use Rattle.dvg_cmd.specs.declared.timed_judge.LineClocks.TheVariants as line
use Rattle.dvg_cmd.specs.declared.timed_judge.ClockOptions.{ClockOptions}
use Rattle.dvg_cmd.specs.SafeFrames.{MeansFrame}
use Rattle.dvg_cmd.specs.Start.{started}
use Rattle.dvg_spelling.specs.declared.answer.ItemPlace.TheVariants as place
use Rattle.dvg_spelling.specs.declared.answer.Answer.{Answer}
pub use Rattle.dvg_spelling.specs.declared.answer.Answer.TheVariants.{Judged, Timed, Slow, Unread}
pub use Rattle.dvg_spelling.specs.declared.outcome.Outcome.{Outcome}
pub use Rattle.dvg_spelling.specs.declared.outcome.Outcome.TheVariants as outcome
pub use Rattle.dvg_spelling.specs.Outcomes.{FrameAnswer, is_unread, worse}

-- these bytes were read of what a reader held: the first of them up to one past the limit, and all of them if they are a frame's
-- length; this says nothing if the bytes that the reader held are not known
pub record IsReadFrom (reader : Option (List ℕ)) (read : List ℕ) : Type 0 where
  pub first : IfSome reader (λ held. read ≡ take MOST_FRAME_READ held)
  pub whole : IsFrameLength (length read) → IfSome reader (λ held. read ≡ held)

-- these bytes are judged: what was read, with the jump to the start if one is given
pub record ReadsFrame (reader : Option (List ℕ)) (start : Option ℕ) (bytes : List ℕ) : Type 0 where
  pub read : List ℕ
  pub from : IsReadFrom reader read
  pub is : bytes ≡ started start read

-- ---- the verdict on bytes

-- what a yes with exact counts means, and no certificate gets the frame accepted with fewer words or less depth
pub record IsAccepted
    (machine : Machine) (rom : List ℕ) (map : MemoryMap) (bytes : List ℕ) (budget : ℕ) (w : Window) (y : Yes) : Type 0 where
  pub in_range : InRange bytes budget
  pub rom_length : IsRomLength map (length rom)
  pub means : Means Exact (record { frame = words_of bytes; rom = rom_on machine map rom }) w y.words y.depth
  pub least : AreLeast (rom_on machine map rom) (words_of bytes) w y.words y.depth
  -- it is the verdict by the frame's own certificate
  pub by_own : VerdictByMade (rom_on machine map rom) (words_of bytes) w budget (Ok y)

-- the lengths and the budget are in range; it is the verdict by the frame's own certificate, and means what the judge's does
pub record IsJudgedRefusal
    (machine : Machine) (rom : List ℕ) (map : MemoryMap) (bytes : List ℕ) (budget : ℕ) (w : Window) (r : FrameRefusal) : Type 0 where
  pub in_range : InRange bytes budget
  pub rom_length : IsRomLength map (length rom)
  pub by_own : VerdictByMade (rom_on machine map rom) (words_of bytes) w budget (Err r)
  pub refused : FrameRefused (rom_on machine map rom) (words_of bytes) w budget r

-- what a refusal means: the first that applies of 2, 49 and 1, or what the judge's does
abbrev pub IsRefused : Machine → List ℕ → MemoryMap → List ℕ → ℕ → Window → FrameRefusal → Type 0
IsRefused machine rom map bytes budget w (Check (refusal.Image FrameLength)) = RangeRefusal bytes budget (refusal.Image FrameLength)
IsRefused machine rom map bytes budget w (Check refusal.BudgetRange) = RangeRefusal bytes budget refusal.BudgetRange
IsRefused machine rom map bytes budget w (Check (refusal.Image RomLength)) = InRange bytes budget × (IsRomLength map (length rom) → ⊥)
IsRefused machine rom map bytes budget w r = IsJudgedRefusal machine rom map bytes budget w r

-- the verdict on a frame's bytes by its own certificate, over a ROM's bytes at this map on a machine
abbrev pub VerdictOnBytes : Machine → List ℕ → MemoryMap → List ℕ → ℕ → Window → Result Yes FrameRefusal → Type 0
VerdictOnBytes machine rom map bytes budget w (Ok y) = IsAccepted machine rom map bytes budget w y
VerdictOnBytes machine rom map bytes budget w (Err r) = IsRefused machine rom map bytes budget w r

-- the ROM of a judge by own certificates, the memory of a frame's bytes over it, and the verdict on them
abbrev pub rom_of : OwnCertificates → Rom
rom_of own = rom_on own.machine own.map own.rom.now

abbrev pub memory_of : OwnCertificates → List ℕ → Memory
memory_of own bytes = record { frame = words_of bytes; rom = rom_of own }

abbrev pub VerdictBy : OwnCertificates → List ℕ → Result Yes FrameRefusal → Type 0
VerdictBy own bytes v = VerdictOnBytes own.machine own.rom.now own.map bytes own.budget own.window v

-- ---- the verdict over shapes that were judged

-- when a judge over these shapes may judge with a detail: they are shapes of the certificate's entries, over a ROM at its map; for an
-- account, the ROM is also that of these bytes, and the mode is that in which the shapes were judged
abbrev pub MayJudgeOver : Machine → Shapes → Certificate → List ℕ → Mode → Detail → Type 0
MayJudgeOver machine shapes c rom mode details.Line = (shapes.rom.map ≡ c.map) × (shapes.list ≡ c.entries)
MayJudgeOver machine shapes c rom mode (details.Account labels) =
    IsRomLength c.map (length rom) × (shapes.rom ≡ rom_on machine c.map rom) × (shapes.list ≡ c.entries) × (shapes.mode ≡ mode)

-- the frame is good by the list, and what a yes in the mode of the shapes means
pub record IsAcceptedOver (shapes : Shapes) (bytes : List ℕ) (budget : ℕ) (y : Yes) : Type 0 where
  pub in_range : InRange bytes budget
  pub good : GoodFrame shapes.window shapes.rom.machine (words_of bytes) shapes.list budget y.words y.depth
  pub means : Means shapes.mode (record { frame = words_of bytes; rom = shapes.rom }) shapes.window y.words y.depth

-- the verdict on a frame's bytes: the first that applies of 2, 49, the frame's first fault, and the yes, with this count of shapes
abbrev pub VerdictOver : Shapes → ℕ → List ℕ → ℕ → Result Yes FrameRefusal → Type 0
VerdictOver shapes count bytes budget (Ok y) = IsAcceptedOver shapes bytes budget y × (y.shapes ≡ count)
VerdictOver shapes count bytes budget (Err (Check (refusal.Image FrameLength))) = RangeRefusal bytes budget (refusal.Image FrameLength)
VerdictOver shapes count bytes budget (Err (Check refusal.BudgetRange)) = RangeRefusal bytes budget refusal.BudgetRange
VerdictOver shapes count bytes budget (Err (Check (refusal.Frame f))) =
    InRange bytes budget × FirstFrameFault shapes.window shapes.rom.machine (words_of bytes) shapes.list budget f
VerdictOver shapes count bytes budget (Err r) = ⊥

-- ---- what is written

-- the yes of an answer
abbrev pub yes_in : FrameAnswer → Option Yes
yes_in (Judged (Ok y)) = Some y
yes_in (Timed t) = Some t.yes
yes_in answer = None

-- its refusal, but for 58
abbrev pub refusal_in : FrameAnswer → Option FrameRefusal
refusal_in (Judged (Err r)) = Some r
refusal_in answer = None

-- what an answer says of a frame's reader: it was read to its end or to one byte past the limit, and these bytes are judged, with
-- this answer; `Unread` says nothing of the bytes
abbrev pub AnswerMeans :
    (List ℕ → FrameAnswer → Type 0) → Option ℕ → Option (List ℕ) → Option (List ℕ) → List ℕ → FrameAnswer → Type 0
AnswerMeans IsAnswer start old new bytes Unread = Unit {0}
AnswerMeans IsAnswer start old new bytes answer = IsReadTo MOST_FRAME_READ old new × ReadsFrame old start bytes × IsAnswer bytes answer

-- how frames are judged: what is an answer to the bytes of a frame, and why a refused one is refused; and of which ROM, which window
-- and which mode of counts it speaks
pub record Judging : Type 1 where
  pub is_answer : List ℕ → FrameAnswer → Type 0
  pub is_told : List ℕ → FrameRefusal → Type 0
  pub rom : Rom
  pub window : Window
  pub mode : Mode

-- an answer is a verdict, without clocks
abbrev pub IsPlain : (Result Yes FrameRefusal → Type 0) → FrameAnswer → Type 0
IsPlain IsVerdict (Judged v) = IsVerdict v
IsPlain IsVerdict answer = ⊥

-- by the frame's own certificate: where the maker stops at a call, a cause is known
abbrev pub judged_by_own : OwnCertificates → Judging
judged_by_own own =
    record {
      is_answer = λ bytes answer. IsPlain (VerdictBy own bytes) answer;
      is_told = λ bytes refusal. HasCallCause (rom_of own) (words_of bytes) refusal;
      rom = rom_of own;
      window = own.window;
      mode = Exact;
    }

-- the answer that a verdict with clocks comes to
abbrev pub timed_answer : Result TimedYes TimedRefusal → FrameAnswer
timed_answer (Ok t) = Timed t
timed_answer (Err (timed.Judged r)) = Judged (Err r)
timed_answer (Err (timed.Slow at)) = Slow (place.Frame at)

-- the clocks of an accepted frame: the sum over its items and shapes, within the limit; on the board each run of the circuit takes so many
pub record HasClocks (timing : Timing) (own : OwnCertificates) (bytes : List ℕ) (t : TimedYes) : Type 0 where
  pub sum : AreClocks timing.states (rom_of own) (words_of bytes) t.yes.words t.clocks
  pub within : t.clocks.most ≤ timing.limit
  pub runs : own.machine ≡ Board → TakenOnCircuit (clocks_of_instr timing.states) (memory_of own bytes) t.clocks

-- the answer with clocks: the verdict by the frame's own certificate, and of an accepted frame its clocks, or its first item with which
-- they are over the limit
abbrev pub TimedAnswer : Timing → OwnCertificates → List ℕ → FrameAnswer → Type 0
TimedAnswer timing own bytes (Judged (Err r)) = VerdictBy own bytes (Err r)
TimedAnswer timing own bytes (Timed t) = VerdictBy own bytes (Ok t.yes) × HasClocks timing own bytes t
TimedAnswer timing own bytes (Slow (place.Frame at)) =
    InRange bytes own.budget × IsRomLength own.map (length own.rom.now)
    × IsSlow timing (rom_of own) (words_of bytes) own.window own.budget at
TimedAnswer timing own bytes answer = ⊥

-- what a line tells of an answer with clocks: all, or all but the clocks
abbrev pub told_with : {R : Type 0} → LineClocks → Answer R → Answer R
told_with line.LeftOut (Timed t) = Judged (Ok t.yes)
told_with shown answer = answer

-- by the frame's own certificate, with its clocks, as lines tell them
abbrev pub judged_timed : ClockOptions → OwnCertificates → Judging
judged_timed asked own = record (judged_by_own own) {
  is_answer = λ bytes told. (answer : FrameAnswer) × TimedAnswer asked.timing own bytes answer × (told ≡ told_with asked.line answer);
}

-- over judged shapes, with this count of shapes
abbrev pub judged_over : Shapes → ℕ → ℕ → Judging
judged_over shapes count budget =
    record {
      is_answer = λ bytes answer. IsPlain (VerdictOver shapes count bytes budget) answer;
      is_told = λ bytes refusal. Unit {0};
      rom = shapes.rom;
      window = shapes.window;
      mode = shapes.mode;
    }

-- what is said by the later one is said by the first, of the same ROM, window and mode
pub record JudgesAlike (first later : Judging) : Type 0 where
  pub answer : (bytes : List ℕ) (a : FrameAnswer) → later.is_answer bytes a → first.is_answer bytes a
  pub told : (bytes : List ℕ) (r : FrameRefusal) → later.is_told bytes r → first.is_told bytes r
  pub rom : later.rom ≡ first.rom
  pub window : later.window ≡ first.window
  pub mode : later.mode ≡ first.mode

-- the answer to a frame that a reader held, which still holds `left`; `bytes` are any where it was not read
pub record AnswersFrame (j : Judging) (start : Option ℕ) (frame left : Option (List ℕ)) (answer : FrameAnswer) : Type 0 where
  pub bytes : List ℕ
  pub answers : AnswerMeans j.is_answer start frame left bytes answer
  -- why it is refused
  pub told : IfSome (refusal_in answer) (j.is_told bytes)
  -- what a yes means
  pub means : IfSome (yes_in answer) (MeansFrame j.mode j.rom j.window start frame)
