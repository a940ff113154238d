-- Frames of a recipe, by what is known of their items, and judged by their own certificates. All of it is this project's own.
use Rattle.std.specs.Prelude.{◌≡◌, ℕ, List, [], ◌∷◌, Option, Some, None, Result}
use Rattle.dvg_words.specs.declared.machine.Machine.TheVariants.{Board}
use Rattle.dvg_words.specs.Memory.{Rom, words_of}
use Rattle.dvg_words.specs.Values.{Window}
use Rattle.dvg_cert.specs.declared.entry.Entry.{Entry}
use Rattle.dvg_cert.specs.declared.entry.Key.{Key}
use Rattle.dvg_cert.specs.declared.entry.Key.TheVariants.{Any}
use Rattle.dvg_cert.specs.declared.entry.End.{End}
use Rattle.dvg_cert.specs.declared.entry.End.TheVariants.{Rel, Abs, Lost}
use Rattle.dvg_cert.specs.Lookup.{entry_at}
use Rattle.dvg_items.specs.declared.item.Item.{Item}
use Rattle.dvg_items.specs.declared.item.Kind.TheVariants.{Frame as OfFrame}
use Rattle.dvg_items.specs.declared.known.Known.{Known}
use Rattle.dvg_items.specs.Known.{target, start, known_past}
use Rattle.dvg_make.specs.Made.{AllMade, Barred}
use Rattle.dvg_check.specs.Numbers.{refusal_number}
use Rattle.dvg_check.specs.FirstFault.{shape_number, frame_number}
use Rattle.dvg_check.specs.declared.verdict.Yes.{Yes}
use Rattle.dvg_make.specs.Judging.{VerdictByMade}
use Rattle.dvg_make.specs.declared.judging.FrameRefusal.{FrameRefusal}
use Rattle.dvg_make.specs.declared.judging.FrameRefusal.TheVariants.{Make as Unmakeable, NoMemory, Check}
use Rattle.dvg_make.specs.Refusals.{fault_number, make_fault_of}
use Rattle.dvg_recipe.specs.Recipes.{Recipe, PlaceSpan, IsPlaceIn, Leading, IsFrameOf}
use Rattle.dvg_recipe.specs.declared.verdict.RecipeRefusal.{RecipeRefusal}
use Rattle.dvg_recipe.specs.declared.verdict.RecipeRefusal.TheVariants.{TooLong, Stuck, Make, Shape, Frame, Memory}

-- ---- where draws lead, by what is known

-- the made entry of the shape that is called at this scale; none where no list of made entries has it (profile)
abbrev pub NamesMade : Rom → ℕ → Key → Option Entry → Type 0
NamesMade rom to scale None = Barred rom to scale
NamesMade rom to scale (Some e) = (list : List Entry) × AllMade rom list × (entry_at list to scale ≡ Some e)

-- the entry that an item calls at this scale; none where it calls nothing (profile)
abbrev pub Names : Rom → Option ℕ → Key → Option Entry → Type 0
Names rom None scale named = named ≡ None
Names rom (Some to) scale named = NamesMade rom to scale named

-- by made entries, this is known behind the items of a frame, the latest first; a call without an entry moves nothing (profile)
abbrev pub ComesTo : Rom → List Item → Known → Type 0
ComesTo rom [] known = known ≡ start OfFrame Any
ComesTo rom (i ∷ earlier) known =
    (before : Known) × (named : Option Entry) × ComesTo rom earlier before × Names rom (target OfFrame i.instr) before.scale named
    × (known ≡ known_past Board i named before)

-- the place is known, and in the rectangle
abbrev pub IsEndIn : PlaceSpan → End → Type 0
IsEndIn to (Rel x y) = ⊥
IsEndIn to (Abs x y) = IsPlaceIn to.x x × IsPlaceIn to.y y
IsEndIn to Lost = ⊥

-- behind the items a place of the rectangle is known (profile)
abbrev pub LeadsInto : Rom → Leading
LeadsInto rom to items = (known : Known) × ComesTo rom items known × IsEndIn to known.place

-- a frame of the recipe, by what is known of the places to which its draws lead; the ROM is asked only for these (profile)
abbrev pub IsMember : Rom → Recipe → List ℕ → Type 0
IsMember rom recipe words = IsFrameOf (LeadsInto rom) recipe words

-- ---- verdicts

-- the frame of these bytes is a member of the recipe, and this is the verdict on it by its own certificate (profile)
pub record IsMemberVerdict (rom : Rom) (recipe : Recipe) (w : Window) (budget : ℕ) (bytes : List ℕ) (verdict : Result Yes FrameRefusal)
    : Type 0 where
  pub member : IsMember rom recipe (words_of bytes)
  pub judged : VerdictByMade rom (words_of bytes) w budget verdict

-- the number of a refusal by a frame's own certificate (profile)
abbrev pub judged_number : FrameRefusal → ℕ
judged_number (Unmakeable at why) = fault_number (make_fault_of why)
judged_number NoMemory = 63
judged_number (Check refusal) = refusal_number refusal

-- the number of a refusal of a recipe; none where there was no memory (profile)
abbrev pub recipe_number : RecipeRefusal → Option ℕ
recipe_number (TooLong piece) = Some 57
recipe_number (Stuck piece) = Some 59
recipe_number (Make unmade) = Some (fault_number (make_fault_of unmade.why))
recipe_number (Shape fault) = Some (shape_number fault.why)
recipe_number (Frame fault) = Some (frame_number fault.why)
recipe_number Memory = None
