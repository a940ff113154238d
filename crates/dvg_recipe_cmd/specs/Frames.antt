-- What a run writes that tells of frames whether they are a recipe's. All of it is this project's own.
use Rattle.std.specs.Prelude.{◌≡◌, ℕ, Bool, true, false, List, [], ◌∷◌, ◌++◌, codes, length, Option, None, Some, Result, Ok, Err, string_bytes}
use Rattle.std.specs.Io.KnownBytes.{Appends}
use Rattle.dvg_words.specs.Values.{MemoryMap}
use Rattle.dvg_words.specs.Memory.{Rom, IsFrameLength, IsRomLength, words_of}
use Rattle.dvg_text.specs.Devices.{AppendsPrefix, TakesOneWrite, count_after}
use Rattle.dvg_recipe.specs.Recipes.{Recipe}
use Rattle.dvg_recipe.specs.Lengths.{FitsAreas}
use Rattle.dvg_recipe.specs.Members.{IsMember}
use Rattle.dvg_recipe_text.specs.declared.reader.ReadRecipe.{ReadRecipe}
use Rattle.dvg_recipe_text.specs.declared.fault.RecipeTextFault.{RecipeTextFault}
use Rattle.dvg_cmd.specs.Frames.{Outcome, ReadsFrame}
use Rattle.dvg_cmd.specs.Runs.{MOST_FRAME_READ, IsReadTo}
use Rattle.dvg_cmd.specs.Detail.{Behind, IsBehind, behind_text, outcome_behind, has_account}
use Rattle.dvg_cmd.specs.declared.detail.Detail.{Detail}
use Rattle.dvg_cmd.specs.declared.listing.Listing.{Listing}
use Rattle.dvg_cmd.specs.declared.several_frames.NamedReader.{NamedReader}
use Rattle.dvg_recipe_cmd.specs.declared.answer.RecipeNo.{RecipeNo}
use Rattle.dvg_recipe_cmd.specs.declared.answer.RecipeNo.TheVariants as no
use Rattle.dvg_recipe_cmd.specs.declared.membership.Membership.{Membership}
use Rattle.dvg_recipe_cmd.specs.declared.membership.Membership.TheVariants as member
use Rattle.dvg_recipe_cmd.specs.declared.tally.BelongsTally.{BelongsTally}
use Rattle.dvg_recipe_cmd.specs.Answers.{no_outcome, recipe_no_text, membership_text, membership_outcome, with_membership, belongs_summary_text}
use Rattle.dvg_cmd.specs.Telling.{Line, Telling, layout_of}

-- the answer is that the frame could not be read
abbrev pub is_unread : Membership → Bool
is_unread member.Unread = true
is_unread membership = false

-- what is said of the bytes of a frame is so, over this ROM
abbrev pub IsMembership : Rom → Recipe → List ℕ → Membership → Type 0
IsMembership rom recipe bytes member.Belongs = IsFrameLength (length bytes) × IsMember rom recipe (words_of bytes)
IsMembership rom recipe bytes (member.Outside at) = IsFrameLength (length bytes) × (IsMember rom recipe (words_of bytes) → ⊥)
IsMembership rom recipe bytes member.WrongLength = IsFrameLength (length bytes) → ⊥
IsMembership rom recipe bytes member.NoMemory = IsFrameLength (length bytes)
IsMembership rom recipe bytes member.Unread = ⊥

-- what an answer says of what a reader held: it was read to its end or to one byte past the limit, and of these bytes the answer is so
pub record SaysOf (rom : Rom) (recipe : Recipe) (old new : Option (List ℕ)) (bytes : List ℕ) (membership : Membership) : Type 0 where
  pub read : IsReadTo MOST_FRAME_READ old new
  pub from : ReadsFrame old None bytes
  pub is : IsMembership rom recipe bytes membership

-- `remaining` is what a reader still holds, and `failures` its count of failed reads
module _ {R : Type 0} (remaining : R → Option (List ℕ)) (failures : R → ℕ) (rom : Rom) (recipe : Recipe) where
  -- the answer to a frame: `Unread` if it can't be opened; else what is said of what its reader held, `Unread` exactly where a read failed
  abbrev pub AnswersFrame : Option R → Membership → Type 0
  AnswersFrame None membership = membership ≡ member.Unread
  AnswersFrame (Some reader) membership =
      (left : R) × (bytes : List ℕ)
      × (is_unread membership ≡ false → SaysOf rom recipe (remaining reader) (remaining left) bytes membership)
      × (failures left ≡ count_after (is_unread membership) (failures reader))

  -- the line of a frame: its name, the answer to it, and behind the line what the detail asks for
  pub record IsLineOfFrame (listing : Listing Detail) (frame : NamedReader R) (line : Line (Membership × Behind)) : Type 0 where
    pub name_is : line.name ≡ string_bytes frame.name
    pub answers : AnswersFrame frame.reader line.answer.0
    pub asked : IsBehind listing.detail line.answer.1

-- how it is told of frames
abbrev pub of_frames : Listing Detail → Telling (Membership × Behind) BelongsTally
of_frames listing =
    record {
      text = λ answer. (membership_text answer.0 ++ codes "\n") ++ behind_text answer.1;
      outcome = λ answer. outcome_behind answer.1 (membership_outcome answer.0);
      layout = layout_of listing (has_account listing.detail);
      none = record { belongs = 0; outside = 0; refused = 0; unread = 0; no_memory = 0 };
      add = λ tally line. with_membership tally line.answer.0;
      last = λ tally. belongs_summary_text tally ∷ [];
    }

-- ---- a refusal for which no frame is taken

-- of the recipe's text, of the ROM's length, or of the longest list's, which is told at a line
abbrev pub RefusesRecipe : List ℕ → MemoryMap → Result ReadRecipe RecipeTextFault → RecipeNo → Type 0
RefusesRecipe rom map (Err fault) refusal = refusal ≡ no.Text fault
RefusesRecipe rom map (Ok read) no.RomLength = IsRomLength map (length rom) → ⊥
RefusesRecipe rom map (Ok read) (no.TooLong line) = IsRomLength map (length rom) × (FitsAreas read.recipe → ⊥)
RefusesRecipe rom map (Ok read) refusal = ⊥

-- none applies to this recipe
pub record TakesRecipe (rom : List ℕ) (map : MemoryMap) (given : Result ReadRecipe RecipeTextFault) (read : ReadRecipe) : Type 0 where
  pub given_is : given ≡ Ok read
  pub rom_length : IsRomLength map (length rom)
  pub fits : FitsAreas read.recipe

-- the line of a refusal, which names no recipe, and what is behind it
abbrev pub refusal_text : RecipeNo → Behind → List ℕ
refusal_text refusal what = recipe_no_text refusal ++ codes "\n" ++ behind_text what

-- those of such a refusal were written, and nothing else, by one write if they fit one
pub record ReportsRefusal
    (rom : List ℕ) (map : MemoryMap) (given : Result ReadRecipe RecipeTextFault) (detail : Detail) (old new : Option (List ℕ))
    (writes writes_after : ℕ) (end : Outcome) : Type 0 where
  pub refusal : RecipeNo
  pub refuses : RefusesRecipe rom map given refusal
  pub behind : Behind
  pub asked : IsBehind detail behind
  pub written : Appends old new (refusal_text refusal behind)
  pub one_write : TakesOneWrite (refusal_text refusal behind) writes writes_after
  pub outcome_is : end ≡ outcome_behind behind (no_outcome refusal)

-- a prefix of them was written
pub record ReportsRefusalPrefix
    (rom : List ℕ) (map : MemoryMap) (given : Result ReadRecipe RecipeTextFault) (detail : Detail)
    (old new : Option (List ℕ)) : Type 0 where
  pub refusal : RecipeNo
  pub refuses : RefusesRecipe rom map given refusal
  pub behind : Behind
  pub asked : IsBehind detail behind
  pub written : AppendsPrefix old new (refusal_text refusal behind)
