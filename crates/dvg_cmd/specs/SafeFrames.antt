-- What an accepted line says of a frame that a reader held. All of it is this project's own.
use Rattle.std.specs.Prelude.{ℕ, List, Option, IfSome}
use Rattle.dvg_words.specs.Memory.{Rom, words_of}
use Rattle.dvg_words.specs.Values.{Window}
use Rattle.dvg_check.specs.Means.{Means}
use Rattle.dvg_check.specs.declared.fault.Mode.{Mode}
use Rattle.dvg_check.specs.declared.verdict.Yes.{Yes}
use Rattle.dvg_cmd.specs.Start.{started}

-- all that a yes means holds, with these counts, of a ROM and the bytes that a frame's reader held, with the jump to a start if one is
-- given; this says nothing if the bytes are not known
abbrev pub MeansFrame : Mode → Rom → Window → Option ℕ → Option (List ℕ) → Yes → Type 0
MeansFrame mode rom w start frame y =
    IfSome frame (λ held. Means mode (record { frame = words_of (started start held); rom = rom }) w y.words y.depth)
