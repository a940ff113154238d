-- What a run says of the places of calls, and what it writes. All of it is this project's own.
use Rattle.std.specs.Prelude.{ℕ, List, Option}
use Rattle.std.specs.Io.KnownBytes.{Appends}
use Rattle.dvg_words.specs.declared.machine.Machine.{Machine}
use Rattle.dvg_words.specs.Values.{MemoryMap, Window}
use Rattle.dvg_words.specs.Memory.{rom_on, words_of}
use Rattle.dvg_text.specs.Devices.{AppendsPrefix}
use Rattle.dvg_cert.specs.declared.entry.Entry.{Entry}
use Rattle.dvg_cert.specs.declared.entry.Key.{Key}
use Rattle.dvg_make.specs.Frames.{FramesMade}
use Rattle.dvg_survey.specs.declared.places.EntryPlaces.{EntryPlaces}
use Rattle.dvg_survey.specs.Places.{AreAllPlaces}
use Rattle.dvg_spelling.specs.Places.{place_line}
use Rattle.dvg_cmd.specs.MakingFrames.{of_each, Inputs}
use Rattle.dvg_cmd.specs.Sent.{joined, TakeOneWriteEach}

-- the places of the calls of each entry of the list that is made for all bytes that readers held, of a ROM at this map and of frames,
-- in the order of that list
pub record PlacesFor
    (machine : Machine) (w : Window) (rom : Option (List ℕ)) (map : MemoryMap) (roots : List (ℕ × Key)) (frames : List (Option (List ℕ)))
    (places : List EntryPlaces) : Type 0 where
  pub list : List Entry
  pub all : Inputs rom map frames
  pub made : FramesMade (rom_on machine map all.rom_bytes) roots (of_each words_of all.frame_bytes) list
  pub are : AreAllPlaces w (rom_on machine map all.rom_bytes) list list places

-- a line for each of such places was written, each by one write if it fits one, and nothing else; `writes` and `writes_after` count the
-- writes that took their whole piece
pub record WritesPlaces (ArePlaces : List EntryPlaces → Type 0) (old new : Option (List ℕ)) (writes writes_after : ℕ) : Type 0 where
  pub places : List EntryPlaces
  pub are : ArePlaces places
  pub written : Appends old new (joined (of_each place_line places))
  pub one_write : TakeOneWriteEach (of_each place_line places) writes writes_after

-- a prefix of these lines was written, and nothing else
pub record WritesPlacesPrefix (ArePlaces : List EntryPlaces → Type 0) (old new : Option (List ℕ)) : Type 0 where
  pub places : List EntryPlaces
  pub are : ArePlaces places
  pub written : AppendsPrefix old new (joined (of_each place_line places))
