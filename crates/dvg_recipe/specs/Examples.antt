-- Worked recipes. Of the first, a frame that belongs to it and two that don't. Of the second, each frame is all that a yes means
-- with places up to one, and a frame is refused with places up to the next. What words say is from the documentation of the DVG.
use Rattle.std.specs.Prelude.{◌≡◌, ℕ, ℤ, pos, negsuc, true, false, List, [], ◌∷◌, None, replicate, Err}
use Rattle.std.specs.Global.{Vec, Box}
use Rattle.dvg_words.specs.declared.machine.Machine.TheVariants.{Board}
use Rattle.dvg_words.specs.declared.instruction.Instr.TheVariants.{Draw as Draws, Labs, Jsrl}
use Rattle.dvg_words.specs.declared.instruction.Format.TheVariants.{Short, Long}
use Rattle.dvg_words.specs.Memory.{Rom}
use Rattle.dvg_words.specs.Beam.{screen}
use Rattle.dvg_items.specs.declared.item.Item.{Item}
use Rattle.dvg_check.specs.Example.{rom_for}
use Rattle.dvg_check.specs.declared.fault.FrameWhy.TheVariants as frame
use Rattle.dvg_check.specs.declared.verdict.Refusal.TheVariants as refusal
use Rattle.dvg_make.specs.declared.judging.FrameRefusal.{FrameRefusal}
use Rattle.dvg_make.specs.declared.judging.FrameRefusal.TheVariants.{Check}
use Rattle.dvg_recipe.specs.Recipes.{Recipe, Piece, Place, Call, Draw, Fixed, Row, Then', Either', Repeat'}
use Rattle.dvg_recipe.specs.Members.{IsMember}
use Rattle.dvg_recipe.specs.Means.{AllMean}
use Rattle.dvg_recipe.specs.Members.{IsMemberVerdict}

-- a vector of these items, wherever it lies in memory
abbrev pub VecOf : {X : Type 0} → List X → Type 0
VecOf {X} items = (v : Vec X) × (v.items ≡ items)

-- JSRL to one of these word addresses
abbrev pub call_piece : Vec ℕ → Piece
call_piece targets = record { number = 1; kind = Call targets }

-- ---- which frames belong

-- LABS to X 0 to 1000 and Y -8 to 100, at scale 0 or 2
abbrev pub place_piece : Piece
place_piece =
    record {
      number = 0;
      kind = Place (record {
        x = record { low = pos 0; high = pos 1000 };
        y = record { low = negsuc 7; high = pos 100 };
        scales = true ∷ false ∷ true ∷ replicate 13 false;
      });
    }

-- VCTR at local scale 9, X size -3 to 3, Y size 0 to 2, intensity 0 to 7
abbrev pub stroke_piece : Piece
stroke_piece =
    record {
      number = 2;
      kind = Draw (record {
        format = Long;
        lscale = 9;
        dx = record { low = negsuc 2; high = pos 3 };
        dy = record { low = pos 0; high = pos 2 };
        bright = record { low = pos 0; high = pos 7 };
        to = None;
      });
    }

-- SVEC of both sizes 0, intensity 15: a dot
abbrev pub dot_piece : Piece
dot_piece = record { number = 3; kind = Fixed 0xF0F0 0 }

-- the vectors and the boxes of the first recipe
pub record ExampleParts : Type 0 where
  pub targets : VecOf {X = ℕ} (0x800 ∷ 0x803 ∷ [])
  pub start : VecOf (place_piece ∷ call_piece targets.0 ∷ [])
  pub stroke : VecOf (stroke_piece ∷ [])
  pub dot : VecOf (dot_piece ∷ [])
  pub boxes : ℕ → Box (Unit {0})

-- in a list from 000 to 01F: a place and a call, then up to twice a stroke or a dot
abbrev pub example_recipe : ExampleParts → Recipe
example_recipe p =
    record {
      lists = record { first = 0; last = 0x01F } ∷ [];
      body =
          Then' (p.boxes 0) (Row p.start.0) (p.boxes 1)
          (Repeat' 0 2 (p.boxes 2) (Either' (p.boxes 3) (Row p.stroke.0) (p.boxes 4) (Row p.dot.0)));
      jumps = [];
      halt = 4;
    }

-- LABS to X 100, Y -8 and scale 2; JSRL 803; VCTR at local scale 9, intensity 7, X size -3, Y size 2; the dot, but with an X size of
-- minus 0; HALT; behind it a word that is free
abbrev pub member_words : List ℕ
member_words = 0xAFF8 ∷ 0x2064 ∷ 0xC803 ∷ 0x9002 ∷ 0x7403 ∷ 0xF0F4 ∷ 0xB000 ∷ 0xE000 ∷ []

-- its items, the latest first
abbrev pub member_items : List Item
member_items =
    record { at = 5; format = Short; instr = Draws (record { dx = pos 0; dy = pos 0; lscale = 2; bright = 15 }) }
    ∷ record { at = 3; format = Long; instr = Draws (record { dx = negsuc 2; dy = pos 2; lscale = 9; bright = 7 }) }
    ∷ record { at = 2; format = Short; instr = Jsrl 0x803 } ∷ record { at = 0; format = Long; instr = Labs 100 0xFF8 2 } ∷ []

-- LABS to X 100, Y -9 and scale 2; JSRL 803; HALT
abbrev pub past_place_words : List ℕ
past_place_words = 0xAFF7 ∷ 0x2064 ∷ 0xC803 ∷ 0xB000 ∷ []

-- LABS to X 100, Y -8 and scale 2; JSRL 803; three times the dot; HALT
abbrev pub third_turn_words : List ℕ
third_turn_words = 0xAFF8 ∷ 0x2064 ∷ 0xC803 ∷ 0xF0F0 ∷ 0xF0F0 ∷ 0xF0F0 ∷ 0xB000 ∷ []

-- the first frame belongs by these items; one with a place past the range does not, nor does one with a turn too many
pub record WorkedBelonging (rom : Rom) (recipe : Recipe) : Type 0 where
  pub belongs : IsMember rom recipe member_words
  pub items : belongs.items ≡ member_items
  pub past_place : IsMember rom recipe past_place_words → ⊥
  pub third_turn : IsMember rom recipe third_turn_words → ⊥

-- over any ROM, and wherever the recipe lies in memory
abbrev pub WorkedMembers : Type 0
WorkedMembers = (rom : Rom) (p : ExampleParts) → WorkedBelonging rom (example_recipe p)

-- ---- which frames are accepted

-- LABS to X 0 and Y 0 up to this one, at scale 0
abbrev pub column_piece : ℤ → Piece
column_piece top =
    record {
      number = 0;
      kind = Place (record {
        x = record { low = pos 0; high = pos 0 };
        y = record { low = pos 0; high = top };
        scales = true ∷ replicate 15 false;
      });
    }

-- the vectors of the second recipe
pub record ColumnParts (top : ℤ) : Type 0 where
  pub targets : VecOf {X = ℕ} (0x800 ∷ 0x802 ∷ [])
  pub row : VecOf (column_piece top ∷ call_piece targets.0 ∷ [])

-- in a list from 000 to 00F: a place, and a call of a shape of the example ROM: at 800 a lit stroke by 1023 places to the right and 767
-- up, then RTSL; at 802 that RTSL alone
abbrev pub column_recipe : {top : ℤ} → ColumnParts top → Recipe
column_recipe p = record { lists = record { first = 0; last = 0x00F } ∷ []; body = Row p.row.0; jumps = []; halt = 2 }

-- LABS to X 0 and Y 256 at scale 0; JSRL 800; HALT
abbrev pub edge_words : List ℕ
edge_words = 0xA100 ∷ 0x0000 ∷ 0xC800 ∷ 0xB000 ∷ []

-- from Y 256 the stroke ends at 1023, the edge of the screen: each frame is all that a yes means, with at most seven words and one return
-- place
pub record WorkedAcceptance (recipe : Recipe) : Type 0 where
  pub member : IsMember (rom_for Board) recipe edge_words
  pub accepted : AllMean (rom_for Board) recipe screen 7 1

-- the bytes of LABS to X 0 and Y 257 at scale 0; JSRL 800; HALT
abbrev pub beyond_bytes : List ℕ
beyond_bytes = 0x01 ∷ 0xA1 ∷ 0x00 ∷ 0x00 ∷ 0x00 ∷ 0xC8 ∷ 0x00 ∷ 0xB0 ∷ []

-- 46 at word 2, the JSRL
abbrev pub beyond_refusal : FrameRefusal
beyond_refusal = Check (refusal.Frame (record { word = 2; why = frame.OffScreen }))

-- from Y 257 it ends past the edge: that frame belongs, and is refused so
abbrev pub WorkedRefusal : Recipe → Type 0
WorkedRefusal recipe = IsMemberVerdict (rom_for Board) recipe screen 20000 beyond_bytes (Err beyond_refusal)

-- with places up to Y 256 each frame is all that a yes means, and with places up to Y 257 a frame is refused, wherever the recipe lies in
-- memory
pub record WorkedRecipes : Type 0 where
  pub accepted : (p : ColumnParts (pos 256)) → WorkedAcceptance (column_recipe p)
  pub refused : (p : ColumnParts (pos 257)) → WorkedRefusal (column_recipe p)
