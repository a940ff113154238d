-- What a run writes that judges recipes. All of it is this project's own.
use Rattle.std.specs.Prelude.{◌≡◌, ◌≤◌, ◌<◌, ℕ, Bool, true, false, List, [], ◌++◌, length, Option, None, Some, Result, Ok, Err, string_bytes}
use Rattle.std.specs.Io.KnownBytes.{Consumes, IsAtEnd}
use Rattle.dvg_words.specs.declared.machine.Machine.TheVariants.{Board}
use Rattle.dvg_words.specs.Memory.{IsRomLength, rom_on}
use Rattle.dvg_cert.specs.declared.limits.TheConstants.{MOST_WORDS}
use Rattle.dvg_text.specs.Devices.{count_after}
use Rattle.dvg_clocks.specs.declared.frames.Timing.{Timing}
use Rattle.dvg_clocks.specs.declared.judging.TimedYes.{TimedYes}
use Rattle.dvg_check.specs.declared.verdict.Yes.{Yes}
use Rattle.dvg_recipe.specs.Recipes.{Recipe}
use Rattle.dvg_recipe.specs.Lengths.{FitsAreas}
use Rattle.dvg_recipe.specs.Means.{AllMean, AllTake}
use Rattle.dvg_cmd.specs.Detail.{Behind, IsBehind, behind_text, outcome_behind, has_account}
use Rattle.dvg_cmd.specs.declared.detail.Detail.{Detail}
use Rattle.dvg_cmd.specs.declared.detail.Detail.TheVariants as details
use Rattle.dvg_cmd.specs.declared.timed_judge.ClockOptions.{ClockOptions}
use Rattle.dvg_cmd.specs.declared.timed_judge.LineClocks.{LineClocks}
use Rattle.dvg_cmd.specs.declared.timed_judge.LineClocks.TheVariants as line_clocks
use Rattle.dvg_cmd.specs.declared.listing.Lines.TheVariants as which
use Rattle.dvg_cmd.specs.Frames.{told_with}
use Rattle.dvg_spelling.specs.declared.answer.Answer.{Answer}
use Rattle.dvg_spelling.specs.declared.answer.Answer.TheVariants.{Judged, Timed, Slow, Unread, NoMemory}
use Rattle.dvg_spelling.specs.Outcomes.{answer_outcome, is_unread}
use Rattle.dvg_spelling.specs.Report.{line_text}
use Rattle.dvg_spelling.specs.declared.fault.RunFault.{RunFault}
use Rattle.dvg_spelling.specs.declared.fault.RunFault.TheVariants as fault
use Rattle.dvg_recipe_cmd.specs.declared.answer.RecipeNo.{RecipeNo}
use Rattle.dvg_recipe_cmd.specs.declared.answer.RecipeNo.TheVariants as no
use Rattle.dvg_recipe_cmd.specs.declared.judging.RecipeOptions.{RecipeOptions}
use Rattle.dvg_cmd.specs.declared.several_frames.NamedReader.{NamedReader}
use Rattle.dvg_recipe_cmd.specs.declared.recipes.RecipeAsked.{RecipeAsked}
use Rattle.dvg_recipe_cmd.specs.Answers.{no_outcome, recipe_no_text}
use Rattle.dvg_cmd.specs.Telling.{Line, Telling}

-- how many bytes of a recipe are read at most: more than any text has that is read
abbrev pub MOST_RECIPE_READ : ℕ
MOST_RECIPE_READ = 823296

-- these bytes were read of a reader, to its end or so many of them
pub record ReadsRecipe (old new : Option (List ℕ)) (text : List ℕ) : Type 0 where
  pub read : Consumes old new text
  pub few : length text ≤ MOST_RECIPE_READ
  pub end : length text < MOST_RECIPE_READ → IsAtEnd new

-- the yes is about some recipe whose longest list fits: each of its frames over the ROM on the board is all that a yes means. That
-- it is the recipe of the text is only tested
pub record IsAcceptedRecipe (rom : List ℕ) (options : RecipeOptions) (counts : Yes) : Type 0 where
  pub recipe : Recipe
  pub rom_length : IsRomLength options.map (length rom)
  pub budget : options.budget ≤ MOST_WORDS
  pub fits : FitsAreas recipe
  pub means : AllMean (rom_on Board options.map rom) recipe options.window counts.words counts.depth

-- what a verdict on the text of a recipe says: a yes is about a recipe, 1 comes only where the ROM has a wrong length, and 49 only where
-- the budget is 0 or over 1,000,000
abbrev pub IsVerdict : List ℕ → RecipeOptions → Result Yes RecipeNo → Type 0
IsVerdict rom options (Ok counts) = IsAcceptedRecipe rom options counts
IsVerdict rom options (Err no.RomLength) = IsRomLength options.map (length rom) → ⊥
IsVerdict rom options (Err no.BudgetRange) = (0 < options.budget) × (options.budget ≤ MOST_WORDS) → ⊥
IsVerdict rom options (Err refusal) = Unit {0}

-- what a line says of a recipe
abbrev pub RecipeAnswer : Type 0
RecipeAnswer = Answer RecipeNo

-- the answer to an accepted recipe, as its line tells it
abbrev pub told_yes : LineClocks → TimedYes → RecipeAnswer
told_yes line timed = told_with line (Timed timed)

-- the yes is about some recipe, and so are the clocks: each of its frames takes no more on the circuit, and that is within the limit
pub record IsTimedYes (rom : List ℕ) (options : RecipeOptions) (timing : Timing) (timed : TimedYes) : Type 0 where
  pub accepted : IsAcceptedRecipe rom options timed.yes
  pub take : AllTake timing.states (rom_on Board options.map rom) accepted.recipe timed.clocks
  pub within : timed.clocks.most ≤ timing.limit

-- what is said where clocks are asked: of a yes, the clocks as the line tells them; 58 of no other
abbrev pub IsTimedAnswer : List ℕ → RecipeOptions → ClockOptions → RecipeAnswer → Type 0
IsTimedAnswer rom options clocks (Judged (Ok counts)) =
    (timed : TimedYes) × (Judged (Ok counts) ≡ told_yes clocks.line timed) × IsTimedYes rom options clocks.timing timed
IsTimedAnswer rom options clocks (Judged (Err refusal)) = IsVerdict rom options (Err refusal)
IsTimedAnswer rom options clocks (Timed timed) = (clocks.line ≡ line_clocks.Told) × IsTimedYes rom options clocks.timing timed
IsTimedAnswer rom options clocks (Slow at) = Unit {0}
IsTimedAnswer rom options clocks Unread = ⊥
IsTimedAnswer rom options clocks NoMemory = ⊥

-- what is said of the text of a recipe: where no clocks are asked, the verdict
abbrev pub IsAnswer : List ℕ → RecipeOptions → Option ClockOptions → RecipeAnswer → Type 0
IsAnswer rom options None (Judged verdict) = IsVerdict rom options verdict
IsAnswer rom options None answer = ⊥
IsAnswer rom options (Some clocks) answer = IsTimedAnswer rom options clocks answer

-- the answer is that a recipe's reader failed
abbrev pub is_unread_recipe : {A : Type 0} → Result A RunFault → Bool
is_unread_recipe (Err fault.ReadRecipe) = true
is_unread_recipe answer = false

-- of a recipe that is explained no clocks are asked
abbrev pub clocks_with : Detail → Option ClockOptions → Option ClockOptions
clocks_with details.Line clocks = clocks
clocks_with (details.Account labels) clocks = None

-- what an answer says of what a reader held: that there was no memory for it, or what is said of its text
abbrev pub SaysOf : List ℕ → RecipeOptions → Option ClockOptions → Option (List ℕ) → Option (List ℕ) → RecipeAnswer → Type 0
SaysOf rom options clocks old new Unread = Unit {0}
SaysOf rom options clocks old new NoMemory = Unit {0}
SaysOf rom options clocks old new answer = ((text : List ℕ) × ReadsRecipe old new text) × IsAnswer rom options clocks answer

-- `remaining` is what a reader still holds, and `failures` its count of failed reads
module _ {R : Type 0} (remaining : R → Option (List ℕ)) (failures : R → ℕ) (rom : List ℕ) (question : RecipeAsked) where
  -- the answer to a recipe: `Unread` if it can't be opened; else what is said of what its reader held, `Unread` exactly where a read failed
  abbrev pub AnswersRecipe : Detail → Option R → RecipeAnswer → Type 0
  AnswersRecipe detail None answer = answer ≡ Unread
  AnswersRecipe detail (Some reader) answer =
      (left : R) × SaysOf rom question.options (clocks_with detail question.clocks) (remaining reader) (remaining left) answer
      × (failures left ≡ count_after (is_unread answer) (failures reader))

  -- the line of a recipe: its name, the answer to it, and behind the line what the detail asks for
  pub record IsLineOfRecipe (detail : Detail) (recipe : NamedReader R) (line : Line (RecipeAnswer × Behind)) : Type 0 where
    pub name_is : line.name ≡ string_bytes recipe.name
    pub answers : AnswersRecipe detail recipe.reader line.answer.0
    pub asked : IsBehind detail line.answer.1

-- how it is told of recipes: each has its line, and none is counted
abbrev pub of_recipes : Detail → Telling (RecipeAnswer × Behind) (Unit {0})
of_recipes detail =
    record {
      text = λ answer. line_text recipe_no_text answer.0 ++ behind_text answer.1;
      outcome = λ answer. outcome_behind answer.1 (answer_outcome no_outcome answer.0);
      layout = record { lines = which.All; apart = has_account detail; summary = false };
      none = tt;
      add = λ tally line. tally;
      last = λ tally. [];
    }
