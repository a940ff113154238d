-- Inputs that are accepted with the bytes of each word swapped. All of it is this project's own.
use Rattle.std.specs.Prelude.{◌≢◌, ◌<◌, ℕ, List, [], ◌∷◌, length, Result, Ok, Option, Some, None}
use Rattle.std.specs.Borrow.{Bor}
use Rattle.dvg_words.specs.declared.machine.Machine.{Machine}
use Rattle.dvg_words.specs.Values.{MemoryMap}
use Rattle.dvg_words.specs.Memory.{words_of, rom_on, IsRomLength}
use Rattle.dvg_cert.specs.Order.{Certificate}
use Rattle.dvg_check.specs.Verdict.{InRange, RomVerdict}
use Rattle.dvg_check.specs.declared.verdict.Yes.{Yes}
use Rattle.dvg_make.specs.Judging.{VerdictByMade}
use Rattle.dvg_make.specs.declared.judging.FrameRefusal.{FrameRefusal}
use Rattle.dvg_account.specs.declared.inputs.Inputs.{Inputs}
use Rattle.dvg_account.specs.declared.swapped.Swapped.{Swapped}
use Rattle.dvg_account.specs.declared.swapped.Swapped.TheVariants as of

-- bytes with the two of each word swapped; a last one alone stays
abbrev pub swapped : List ℕ → List ℕ
swapped [] = []
swapped (low ∷ []) = low ∷ []
swapped (low ∷ high ∷ rest) = high ∷ low ∷ swapped rest

-- the bytes of the ROM, swapped if that is told
abbrev pub rom_in : Swapped → List ℕ → List ℕ
rom_in of.Frame rom = rom
rom_in other rom = swapped rom

-- the bytes of the frame, swapped if that is told
abbrev pub frame_in : Swapped → List ℕ → List ℕ
frame_in of.Rom frame = frame
frame_in other frame = swapped frame

-- a machine's answer to these bytes of a ROM at this map and of a frame, by the frame's own certificate; none for bytes that can't be
-- judged
abbrev pub IsOwnAnswer : Machine → Inputs → MemoryMap → List ℕ → List ℕ → Option (Result Yes FrameRefusal) → Type 0
IsOwnAnswer machine inputs map rom frame None = InRange frame inputs.budget → IsRomLength map (length rom) → ⊥
IsOwnAnswer machine inputs map rom frame (Some answer) = InRange frame inputs.budget × IsRomLength map (length rom)
    × VerdictByMade (rom_on machine map rom) (words_of frame) inputs.window inputs.budget answer

-- these bytes in the place of those of the inputs are accepted with these counts: by the certificate that is given, or, without one, by
-- that made for the frame
abbrev pub AreAccepted : Inputs → Option (Bor Certificate) → Option MemoryMap → List ℕ → List ℕ → Yes → Type 0
AreAccepted inputs (Some cert) map rom frame counts = InRange frame inputs.budget
    × RomVerdict inputs.machine inputs.mode inputs.window rom cert.now (words_of frame) inputs.budget (Ok counts)
AreAccepted inputs None (Some map) rom frame counts = IsOwnAnswer inputs.machine inputs map rom frame (Some (Ok counts))
AreAccepted inputs None None rom frame counts = ⊥

-- inputs with these bytes swapped are accepted; a frame whose bytes are swapped is more than a HALT
abbrev pub IsAcceptedSwapped : Inputs → Swapped → Type 0
IsAcceptedSwapped inputs told =
    (yes : Yes) × AreAccepted inputs inputs.cert inputs.map (rom_in told inputs.rom.now) (frame_in told inputs.frame.now) yes
    × (told ≢ of.Rom → 1 < yes.words)
