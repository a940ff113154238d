-- What was read of a ROM and of frames, and its images.
use Rattle.std.specs.Prelude.{◌≡◌, ℕ, List, Option}
use Rattle.dvg_words.specs.declared.machine.Machine.{Machine}
use Rattle.dvg_words.specs.Memory.{Rom, words_of, rom_on}
use Rattle.dvg_words.specs.Values.{MemoryMap}
use Rattle.dvg_cmd.specs.MakingFrames.{of_each, Inputs}
use Rattle.dvg_cmd.specs.Runs.{MOST_ROM_READ}
use Rattle.dvg_cmd.specs.Private.Reading.{IsPrefix, ArePrefixes}

-- these are the first of the bytes that the readers of a ROM and of frames held, up to their limits
pub record AreRead (rom : Option (List ℕ)) (frames : List (Option (List ℕ))) (rom_bytes : List ℕ)
    (frame_bytes : List (List ℕ)) : Type 0 where
  pub rom_prefix : IsPrefix MOST_ROM_READ rom rom_bytes
  pub frame_prefixes : ArePrefixes frames frame_bytes

-- these are the ROM and the words of the frames of all bytes that their readers held, each of its right length
pub record AreInputImages
    (machine : Machine) (rom : Option (List ℕ)) (map : MemoryMap) (frames : List (Option (List ℕ)))
    (image : Rom) (words : List (List ℕ)) : Type 0 where
  pub all : Inputs rom map frames
  pub rom_is : image ≡ rom_on machine map all.rom_bytes
  pub words_are : words ≡ of_each words_of all.frame_bytes
