-- How long the lists of a recipe may be. All of it is this project's own.
use Rattle.std.specs.Prelude.{◌≤◌, ◌+◌, ◌*◌, ℕ, List, Contains, Some, max}
use Rattle.std.specs.List.{sum_by}
use Rattle.dvg_words.specs.declared.machine.Machine.TheVariants.{Board}
use Rattle.dvg_words.specs.declared.instruction.Cell.{Cell}
use Rattle.dvg_words.specs.declared.instruction.Cell.TheVariants.{Missing, Odd, Holds}
use Rattle.dvg_words.specs.Decoding.{cell_of_words, word_count}
use Rattle.dvg_recipe.specs.Recipes.{Recipe, Area, Piece, PieceKind, Place, Call, Draw, Fixed, Part, Row, Then', Either', Repeat', Jump}

-- the words of the instruction of the cell; none if it has none
abbrev pub cell_words : Cell → ℕ
cell_words (Holds format i) = word_count format
cell_words Missing = 0
cell_words Odd = 0

-- the words of each instruction that the piece allows
abbrev pub piece_words : PieceKind → ℕ
piece_words (Place r) = 2
piece_words (Call targets) = 1
piece_words (Draw r) = word_count r.format
piece_words (Fixed first second) = cell_words (cell_of_words Board (Some first) (Some second))

-- the most words of the items that the part spells
abbrev pub longest : Part → ℕ
longest (Row row) = sum_by (λ (piece : Piece). piece_words piece.kind) row.items
longest (Then' p a q b) = longest a + longest b
longest (Either' p a q b) = max (longest a) (longest b)
longest (Repeat' least most p body) = most * longest body

-- so many words, and behind them one more, that of a JMPL or a HALT, are in the area
abbrev pub HasRoom : Area → ℕ → Type 0
HasRoom area words = area.first + words ≤ area.last

-- so many words, and one more, are in each of the areas
pub record HaveRoom (areas : List Area) (words : ℕ) : Type 0 where
  pub each : (area : Area) → Contains areas area → HasRoom area words

-- the most words behind each of the jumps, and one more, are in the jump's area
pub record JumpsHaveRoom (jumps : List Jump) : Type 0 where
  pub each : (jump : Jump) → Contains jumps jump → HasRoom jump.area (longest jump.body)

-- the longest list fits: up to its first jump in the area of each list, and behind each jump in that jump's area (profile)
pub record FitsAreas (recipe : Recipe) : Type 0 where
  pub lists : HaveRoom recipe.lists (longest recipe.body)
  pub jumps : JumpsHaveRoom recipe.jumps
