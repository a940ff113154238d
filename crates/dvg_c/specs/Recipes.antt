-- What a recipe, and a frame that may belong to it, come to, from what C passes. All of it is this project's own. No definition says
-- which recipe a text spells, so all that is said is about some recipe: that it is the text's is only tested.
use Rattle.std.specs.Prelude.{◌≡◌, ℕ, List, Option, None, Some, Result, Ok, Err}
use Rattle.std.specs.Global.{Vec}
use Rattle.std.specs.declared.alloc.AllocError.{AllocError}
use Rattle.dvg_words.specs.Values.{MemoryMap, Window, IsMap}
use Rattle.dvg_words.specs.Memory.{rom_on}
use Rattle.dvg_words.specs.declared.machine.Machine.TheVariants.{Board}
use Rattle.dvg_check.specs.FirstFault.{shape_number, frame_number}
use Rattle.dvg_make.specs.declared.fault.EntryFault.{EntryFault}
use Rattle.dvg_make.specs.declared.fault.EntryFault.TheVariants as fault
use Rattle.dvg_check.specs.declared.verdict.Yes.{Yes}
use Rattle.dvg_recipe_text.specs.Faults.{text_number}
use Rattle.dvg_recipe_text.specs.declared.fault.RecipeTextFault.{RecipeTextFault}
use Rattle.dvg_recipe_text.specs.declared.reader.ReadRecipe.{ReadRecipe}
use Rattle.dvg_recipe_cmd.specs.declared.answer.RecipeNo.{RecipeNo}
use Rattle.dvg_recipe_cmd.specs.declared.answer.RecipeNo.TheVariants as no
use Rattle.dvg_recipe_cmd.specs.declared.judging.RecipeOptions.{RecipeOptions}
use Rattle.dvg_recipe_cmd.specs.declared.membership.Membership.{Membership}
use Rattle.dvg_recipe_cmd.specs.declared.membership.Membership.TheVariants as member
use Rattle.dvg_recipe_cmd.specs.Frames.{IsMembership, RefusesRecipe, TakesRecipe}
use Rattle.dvg_recipe_cmd.specs.Recipes.{IsVerdict}
use Rattle.dvg_c.specs.declared.answer.TheConstants.{BAD_MAP, NO_TEXT_MEMORY}
use Rattle.dvg_c.specs.declared.passed.TheConstants.{BOARD}
use Rattle.dvg_c.specs.declared.recipe.RecipeAnswer.{RecipeAnswer}
use Rattle.dvg_c.specs.declared.recipe.TheConstants.{OUTSIDE}
use Rattle.dvg_c.specs.declared.text.TextAnswer.{TextAnswer}
use Rattle.dvg_c.specs.Told.{told_fault, told_key}
use Rattle.dvg_c.specs.Alone.{AreTaken, IsBad}
use Rattle.dvg_c.specs.Texts.{IsPut}

-- a number alone
abbrev pub recipe_numbered : ℕ → RecipeAnswer
recipe_numbered n =
    record { length = 0; shapes = 0; words = 0; line = 0; word = 0; shape = 0; scale = 0; depth = 0; number = n; witness = 0 }

-- a number and a line of the recipe
abbrev pub at_line : ℕ → ℕ → RecipeAnswer
at_line number line = record (recipe_numbered number) { line = line }

-- why the entry can't be made that the call of a line needs
abbrev pub told_unmade_for : EntryFault → ℕ → RecipeAnswer
told_unmade_for fault.Memory line = recipe_numbered 63
told_unmade_for why line = record (at_line (told_fault why).number line) { word = (told_fault why).word }

-- why a recipe is not accepted
abbrev pub told_recipe_no : RecipeNo → RecipeAnswer
told_recipe_no (no.Text f) = at_line (text_number f.why) f.line
told_recipe_no no.BudgetRange = recipe_numbered 49
told_recipe_no no.RomLength = recipe_numbered 1
told_recipe_no (no.TooLong line) = at_line 57 line
told_recipe_no (no.Stuck line) = at_line 59 line
told_recipe_no (no.Make why line) = told_unmade_for why line
told_recipe_no (no.Shape f) = record (recipe_numbered (shape_number f.why)) { shape = f.addr; scale = told_key f.key; word = f.word }
told_recipe_no (no.Frame why line) = at_line (frame_number why) line
told_recipe_no no.NoMemory = recipe_numbered 63

-- a verdict on a recipe
abbrev pub told_recipe : Result Yes RecipeNo → RecipeAnswer
told_recipe (Ok y) = record (recipe_numbered 0) { shapes = y.shapes; words = y.words; depth = y.depth }
told_recipe (Err n) = told_recipe_no n

-- the counts of a recipe that is accepted
abbrev pub recipe_yes_of : RecipeAnswer → Yes
recipe_yes_of a = record { shapes = a.shapes; words = a.words; depth = a.depth }

-- what is asked of its frames
abbrev pub options_of : MemoryMap → ℕ → Window → RecipeOptions
options_of map budget w = record { map = map; budget = budget; window = w }

-- the number of what is out of range, the map or the window, which are those of a board; or a verdict on the text
abbrev pub RecipeVerdict : List ℕ → MemoryMap → ℕ → Window → Result (Result Yes RecipeNo) ℕ → Type 0
RecipeVerdict rom map budget w (Ok v) = AreTaken BOARD map w × IsVerdict rom (options_of map budget w) v
RecipeVerdict rom map budget w (Err n) = IsBad BOARD map w n

-- the answer in plain numbers, but for what shows why
abbrev pub told_judged : Result (Result Yes RecipeNo) ℕ → RecipeAnswer
told_judged (Ok v) = told_recipe v
told_judged (Err n) = recipe_numbered n

-- the frame that shows why, if there is one; or there was no memory to look for it
abbrev pub Witness : Type 0
Witness = Result (Option (Vec ℕ)) AllocError

-- what is told of the frame that shows why: it stands whole at the buffer's start, or the answer has its length and the buffer is as it
-- was; or there is none, or there was no memory to look for it, and the buffer is as it was
abbrev pub TellsWitness : Witness → RecipeAnswer → List ℕ → List ℕ → RecipeAnswer → Type 0
TellsWitness (Ok None) bare old new a = (a ≡ bare) × (new ≡ old)
TellsWitness (Ok (Some frame)) bare old new a =
    (t : TextAnswer) × IsPut frame.items old new t × (a ≡ record bare { length = t.length; witness = t.number })
TellsWitness (Err error) bare old new a = (a ≡ record bare { witness = NO_TEXT_MEMORY }) × (new ≡ old)

-- it is told what the recipe comes to, and of a frame. Which frame that is, is only tested
pub record IsJudged (rom : List ℕ) (map : MemoryMap) (budget : ℕ) (w : Window) (old new : List ℕ) (a : RecipeAnswer) : Type 0 where
  pub verdict : Result (Result Yes RecipeNo) ℕ
  pub holds : RecipeVerdict rom map budget w verdict
  pub shown : Witness
  pub told : TellsWitness shown (told_judged verdict) old new a

-- ---- a frame that may belong to it

-- what is said of a frame, or why the recipe is refused
abbrev pub MemberVerdict : List ℕ → MemoryMap → List ℕ → Result Membership RecipeNo → Type 0
MemberVerdict rom map frame (Ok membership) =
    (given : Result ReadRecipe RecipeTextFault) × (read : ReadRecipe) × TakesRecipe rom map given read
    × IsMembership (rom_on Board map rom) read.recipe frame membership
MemberVerdict rom map frame (Err n) = (given : Result ReadRecipe RecipeTextFault) × RefusesRecipe rom map given n

-- what is said of a frame, of which none is read, so that no reading fails; or why the recipe is refused
abbrev pub told_member : Result Membership RecipeNo → RecipeAnswer
told_member (Ok member.Belongs) = recipe_numbered 0
told_member (Ok (member.Outside at)) = record (recipe_numbered OUTSIDE) { word = at }
told_member (Ok member.WrongLength) = recipe_numbered 2
told_member (Ok member.NoMemory) = recipe_numbered 63
told_member (Ok member.Unread) = recipe_numbered 63
told_member (Err n) = told_recipe_no n

-- the answer is 83 for no map, else it tells what is said of the frame
pub record TellsMember (rom : List ℕ) (map : MemoryMap) (frame : List ℕ) (a : RecipeAnswer) : Type 0 where
  pub no_map : (IsMap map → ⊥) → a ≡ recipe_numbered BAD_MAP
  pub judged : IsMap map → (v : Result Membership RecipeNo) × MemberVerdict rom map frame v × (a ≡ told_member v)
