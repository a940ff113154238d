-- A frame and a ROM that are judged, by the frame's own certificate or by a given one.
use Rattle.std.specs.Prelude.{◌≡◌, ℕ, false, List, length, Result, IfOk, IfSome}
use Rattle.dvg_words.specs.declared.machine.Machine.{Machine}
use Rattle.dvg_words.specs.Memory.{Rom, words_of, rom_on, IsFrameLength, IsRomLength}
use Rattle.dvg_words.specs.Values.{Window}
use Rattle.dvg_cert.specs.Order.{Certificate}
use Rattle.dvg_check.specs.Means.{Means}
use Rattle.dvg_check.specs.Verdict.{InRange, RomVerdict}
use Rattle.dvg_check.specs.declared.fault.Mode.{Mode}
use Rattle.dvg_check.specs.declared.verdict.Refusal.{Refusal}
use Rattle.dvg_check.specs.declared.verdict.Yes.{Yes}
use Rattle.dvg_cmd.specs.Frames.{FrameAnswer, Judging, is_unread, refusal_in, rom_of, yes_in}
use Rattle.dvg_cmd.specs.declared.frame_judge.OwnCertificates.{OwnCertificates}

-- these are the frame's words and the ROM of bytes that can be judged
pub record AreImages (own : OwnCertificates) (bytes words : List ℕ) (image : Rom) : Type 0 where
  pub in_range : InRange bytes own.budget
  pub rom_length : IsRomLength own.map (length own.rom.now)
  pub words_are : words ≡ words_of bytes
  pub rom_is : image ≡ rom_of own

-- the verdict on the bytes of a ROM and the words of a frame by a certificate; an accepted frame is safe
pub record JudgesRom
    (machine : Machine) (mode : Mode) (w : Window) (rom : List ℕ) (c : Certificate) (words : List ℕ) (budget : ℕ)
    (verdict : Result Yes Refusal) : Type 0 where
  pub is : RomVerdict machine mode w rom c words budget verdict
  pub means : IfOk verdict (λ y. Means mode (record { frame = words; rom = rom_on machine c.map rom }) w y.words y.depth)

-- each clause of a judge holds of its answer to these bytes
pub record IsAnswerOf (j : Judging) (bytes : List ℕ) (a : FrameAnswer) : Type 0 where
  pub answer : j.is_answer bytes a
  pub judged : is_unread a ≡ false
  pub whole : IfSome (yes_in a) (λ yes. IsFrameLength (length bytes))
  pub means : IfSome (yes_in a) (λ yes. Means j.mode (record { frame = words_of bytes; rom = j.rom }) j.window yes.words yes.depth)
  pub told : IfSome (refusal_in a) (j.is_told bytes)
