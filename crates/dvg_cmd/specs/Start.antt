-- A frame that is judged from another word address than 000 on. All of it is this project's own.
use Rattle.std.specs.Prelude.{◌+◌, ◌/◌, ◌%◌, ℕ, List, ◌∷◌, Option, Some, None}

-- the bytes with the jump (JMPL) to a word address in place of their first word, the low byte first
abbrev pub jumped : ℕ → List ℕ → List ℕ
jumped to (low ∷ high ∷ rest) = to % 256 ∷ (224 + to / 256 % 16) ∷ rest
jumped to bytes = bytes

-- the bytes of a frame that is judged: its own, or with a jump to a start in place of word 000
abbrev pub started : Option ℕ → List ℕ → List ℕ
started None bytes = bytes
started (Some to) bytes = jumped to bytes
