-- Limits of recipes. All of it is this project's own.
use Rattle.std.specs.Prelude.{◌≡◌, ◌⊎◌, ◌≤◌, ◌<◌, ◌≤ℤ◌, ◌+◌, ◌*◌, ◌-◌, ℕ, suc, ℤ, pos, negsuc, true, List, [], ◌∷◌, Contains, Option, None, Some, length, min}
use Rattle.std.specs.List.{sum_by}
use Rattle.dvg_words.specs.declared.machine.Machine.TheVariants.{Board}
use Rattle.dvg_words.specs.declared.instruction.Instr.TheVariants.{Draw as Draws, Labs, Jsrl}
use Rattle.dvg_words.specs.declared.instruction.Format.{Format}
use Rattle.dvg_words.specs.declared.instruction.Format.TheVariants.{Short, Long}
use Rattle.dvg_words.specs.declared.instruction.Cell.{Cell}
use Rattle.dvg_words.specs.declared.instruction.Cell.TheVariants.{Holds}
use Rattle.dvg_words.specs.declared.map.TheConstants.{ADDRESS_END, RAM_WORDS}
use Rattle.dvg_words.specs.Decoding.{cell_of_words}
use Rattle.dvg_recipe.specs.Recipes.{Recipe, Area, Span, PlaceSpan, DrawRange, Piece, PieceKind, Place, Call, Draw, Fixed, Part, Row, Then', Either', Repeat', Jump}
pub use Rattle.dvg_recipe.specs.declared.limits.TheConstants.{MOST_LISTS, MOST_PIECES, MOST_TURNS, MOST_LEVELS, MOST_NESTED}
pub use Rattle.dvg_recipe.specs.declared.options.TheConstants.{MOST_OPTIONS}

-- ---- pieces

-- the range is not empty, and lies between two numbers, which it may reach
pub record IsSpanBetween (low high : ℤ) (range : Span) : Type 0 where
  pub least : low ≤ℤ range.low
  pub ordered : range.low ≤ℤ range.high
  pub greatest : range.high ≤ℤ high

-- a size that an SVEC can say: 256 times two bits, with a sign
abbrev pub IsSvecSize : ℤ → Type 0
IsSvecSize z = (z ≡ pos 0) ⊎ (z ≡ pos 256) ⊎ (z ≡ pos 512) ⊎ (z ≡ pos 768) ⊎ (z ≡ negsuc 255) ⊎ (z ≡ negsuc 511) ⊎ (z ≡ negsuc 767)

-- the range is one of sizes that the format can say, whose ends it can say
abbrev pub SizesFit : Format → Span → Type 0
SizesFit Short range = (range.low ≤ℤ range.high) × IsSvecSize range.low × IsSvecSize range.high
SizesFit Long range = IsSpanBetween (negsuc 1022) (pos 1023) range

-- the format can say the local scale
abbrev pub LscaleFits : Format → ℕ → Type 0
LscaleFits Short lscale = (2 ≤ lscale) × (lscale ≤ 5)
LscaleFits Long lscale = lscale ≤ 9

-- the rectangle has a place, and its places are those that a LABS can say
abbrev pub PlaceSpanFits : PlaceSpan → Type 0
PlaceSpanFits span = IsSpanBetween (negsuc 2047) (pos 2047) span.x × IsSpanBetween (negsuc 2047) (pos 2047) span.y

-- a VCTR alone may have to lead to a rectangle: an SVEC's moves have gaps (profile)
abbrev pub ToFits : Format → Option PlaceSpan → Type 0
ToFits format None = Unit {0}
ToFits Short (Some span) = ⊥
ToFits Long (Some span) = PlaceSpanFits span

-- the format can say the local scale, and the ends of all three ranges
pub record DrawRangeFits (r : DrawRange) : Type 0 where
  pub lscale : LscaleFits r.format r.lscale
  pub dx : SizesFit r.format r.dx
  pub dy : SizesFit r.format r.dy
  pub bright : IsSpanBetween (pos 0) (pos 15) r.bright
  pub to : ToFits r.format r.to

-- the cell has a draw, a LABS or a JSRL
abbrev pub IsStraight : Cell → Type 0
IsStraight (Holds format (Draws d)) = Unit {0}
IsStraight (Holds format (Labs x y scale)) = Unit {0}
IsStraight (Holds format (Jsrl to)) = Unit {0}
IsStraight cell = ⊥

-- each is a word address, which has twelve bits
pub record AreAddresses (targets : List ℕ) : Type 0 where
  pub each : (to : ℕ) → Contains targets to → to < ADDRESS_END

-- the piece allows some instruction, and words can say its ends (profile)
abbrev pub PieceFits : PieceKind → Type 0
PieceFits (Place r) = IsSpanBetween (negsuc 2047) (pos 2047) r.x × IsSpanBetween (negsuc 2047) (pos 2047) r.y × Contains r.scales true
PieceFits (Call targets) = (0 < length targets.items) × AreAddresses targets.items
PieceFits (Draw r) = DrawRangeFits r
PieceFits (Fixed first second) = IsStraight (cell_of_words Board (Some first) (Some second))

-- ---- parts

-- each piece is within its limits
pub record RowFits (row : List Piece) : Type 0 where
  pub each : (piece : Piece) → Contains row piece → PieceFits piece.kind

-- the part has a piece
abbrev pub HasPiece : Part → Type 0
HasPiece (Row row) = 0 < length row.items
HasPiece (Then' p a q b) = HasPiece a ⊎ HasPiece b
HasPiece (Either' p a q b) = HasPiece a ⊎ HasPiece b
HasPiece (Repeat' least most p body) = HasPiece body

-- each piece is within its limits, there are at most so many levels above a row, and at most so many repeats one in another, each of
-- which has turns that are few, and a piece to repeat (profile)
abbrev pub PartFits : ℕ → ℕ → Part → Type 0
PartFits levels nested (Row row) = RowFits row.items
PartFits levels nested (Then' p a q b) = (0 < levels) × PartFits (levels - 1) nested a × PartFits (levels - 1) nested b
PartFits levels nested (Either' p a q b) = (0 < levels) × PartFits (levels - 1) nested a × PartFits (levels - 1) nested b
PartFits levels nested (Repeat' least most p body) =
    (0 < levels) × (0 < nested) × (least ≤ most) × (0 < most) × (most ≤ MOST_TURNS) × HasPiece body
    × PartFits (levels - 1) (nested - 1) body

-- the pieces are numbered from a number on, up to another
abbrev pub RowNumbered : List Piece → ℕ → ℕ → Type 0
RowNumbered [] n m = m ≡ n
RowNumbered (piece ∷ row) n m = (piece.number ≡ n) × (n < MOST_PIECES) × RowNumbered row (suc n) m

-- so are those of the part, in the order of reading
abbrev pub Numbered : Part → ℕ → ℕ → Type 0
Numbered (Row row) n m = RowNumbered row.items n m
Numbered (Then' p a q b) n m = (k : ℕ) × Numbered a n k × Numbered b k m
Numbered (Either' p a q b) n m = (k : ℕ) × Numbered a n k × Numbered b k m
Numbered (Repeat' least most p body) n m = Numbered body n m

-- ---- options

-- for how many instructions to choose from the piece counts: each address of a call, each of the 16 global scales of a place (profile)
abbrev pub piece_options : PieceKind → ℕ
piece_options (Place r) = 16
piece_options (Call targets) = length targets.items
piece_options (Draw r) = 1
piece_options (Fixed first second) = 1

-- those of the part in so many turns, with its repeats written out, but in no more turns than a list has words (profile)
abbrev pub options : ℕ → Part → ℕ
options turns (Row row) = turns * sum_by (λ (piece : Piece). piece_options piece.kind) row.items
options turns (Then' p a q b) = options turns a + options turns b
options turns (Either' p a q b) = options turns a + options turns b
options turns (Repeat' least most p body) = options (min (turns * most) MOST_TURNS) body

-- those of all parts
abbrev pub all_options : Part → List Jump → ℕ
all_options body jumps = options 1 body + sum_by (λ (jump : Jump). options 1 jump.body) jumps

-- ---- areas

-- the area has words, is in vector RAM, and begins at a word address or behind it (profile)
pub record AreaFits (first : ℕ) (area : Area) : Type 0 where
  pub behind : first ≤ area.first
  pub some : area.first ≤ area.last
  pub inside : area.last < RAM_WORDS

-- each area stands behind the one before; the second address is the one behind them (profile)
abbrev pub AreasFit : List Area → ℕ → ℕ → Type 0
AreasFit [] n m = m ≡ n
AreasFit (area ∷ areas) n m = AreaFits n area × AreasFit areas (suc area.last) m

-- the jump's area is at a word address or behind it, its JMPL has this number, and what stands there is within its limits (profile)
pub record JumpFits (jump : Jump) (word number : ℕ) : Type 0 where
  pub area : AreaFits word jump.area
  pub numbered : jump.number ≡ number
  pub few : number < MOST_PIECES
  pub body : PartFits MOST_LEVELS MOST_NESTED jump.body

-- each jump's area stands behind the one before, and its pieces are numbered behind those before; the last is the number behind them
abbrev pub JumpsFit : List Jump → ℕ → ℕ → ℕ → Type 0
JumpsFit [] word n m = m ≡ n
JumpsFit (jump ∷ jumps) word n m =
    (k : ℕ) × JumpFits jump word n × Numbered jump.body (suc n) k × JumpsFit jumps (suc jump.area.last) k m

-- the recipe is within all limits (profile)
pub record IsRecipe (recipe : Recipe) : Type 0 where
  pub some : 0 < length recipe.lists
  pub few : length recipe.lists ≤ MOST_LISTS
  pub word : ℕ
  pub lists : AreasFit recipe.lists 0 word
  pub body : PartFits MOST_LEVELS MOST_NESTED recipe.body
  pub number : ℕ
  pub numbered : Numbered recipe.body 0 number
  pub jumps : JumpsFit recipe.jumps word number recipe.halt
  pub pieces : recipe.halt < MOST_PIECES
  pub options : all_options recipe.body recipe.jumps ≤ MOST_OPTIONS
