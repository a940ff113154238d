-- How a line is put together token by token, and a text line by line. No rule stands here.
use Rattle.std.specs.Prelude.{◌≡◌, ℕ, List, [], ◌∷◌, ◌++◌, Option}
use Rattle.std.specs.Io.KnownBytes.{Appends}
use Rattle.dvg_text.specs.Limits.{SPACE}

-- tokens with a space in front of each
abbrev pub spaced : List (List ℕ) → List ℕ
spaced [] = []
spaced (t ∷ ts) = SPACE ∷ t ++ spaced ts

-- all of this text was sent, but for the bytes that are held
abbrev pub Buffered : Option (List ℕ) → Option (List ℕ) → List ℕ → List ℕ → Type 0
Buffered old new held text = (sent : List ℕ) × Appends old new sent × (text ≡ sent ++ held)
