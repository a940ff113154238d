-- What lines say of recipes, and of frames that may be theirs. All of it is this project's own.
use Rattle.std.specs.Prelude.{true, List, ◌++◌, ℕ, codes, decimal}
use Rattle.dvg_text.specs.Devices.{count_after}
use Rattle.dvg_check.specs.FirstFault.{frame_number}
use Rattle.dvg_make.specs.declared.fault.EntryFault.TheVariants as entry
use Rattle.dvg_recipe_text.specs.Faults.{text_number}
use Rattle.dvg_recipe_text.specs.declared.fault.RecipeTextWhy.{RecipeTextWhy}
use Rattle.dvg_recipe_text.specs.declared.fault.RecipeTextWhy.TheVariants as why
use Rattle.dvg_spelling.specs.Report.{hex_address, refused_at_text, shape_fault_text, unmade_text}
use Rattle.dvg_spelling.specs.declared.answer.ItemPlace.TheVariants.{RecipeLine}
use Rattle.dvg_spelling.specs.declared.outcome.Outcome.{Outcome}
use Rattle.dvg_spelling.specs.declared.outcome.Outcome.TheVariants as outcome
use Rattle.dvg_recipe_cmd.specs.declared.answer.RecipeNo.{RecipeNo}
use Rattle.dvg_recipe_cmd.specs.declared.answer.RecipeNo.TheVariants as no
use Rattle.dvg_recipe_cmd.specs.declared.membership.Membership.{Membership}
use Rattle.dvg_recipe_cmd.specs.declared.membership.Membership.TheVariants as member
use Rattle.dvg_recipe_cmd.specs.declared.tally.BelongsTally.{BelongsTally}

-- why a recipe is not accepted
abbrev pub recipe_no_text : RecipeNo → List ℕ
recipe_no_text (no.Text f) = refused_at_text (text_number f.why) (RecipeLine f.line)
recipe_no_text no.BudgetRange = codes "refused 49"
recipe_no_text no.RomLength = codes "refused 1"
recipe_no_text (no.TooLong line) = refused_at_text 57 (RecipeLine line)
recipe_no_text (no.Make why line) = unmade_text why (RecipeLine line)
recipe_no_text (no.Stuck line) = refused_at_text 59 (RecipeLine line)
recipe_no_text (no.Shape f) = codes "refused " ++ shape_fault_text f
recipe_no_text (no.Frame why line) = refused_at_text (frame_number why) (RecipeLine line)
recipe_no_text no.NoMemory = codes "out of memory"

-- what the refusal of a text comes to
abbrev pub text_outcome : RecipeTextWhy → Outcome
text_outcome why.Memory = outcome.NoMemory
text_outcome w = outcome.Refused

-- what a refusal comes to
abbrev pub no_outcome : RecipeNo → Outcome
no_outcome (no.Text f) = text_outcome f.why
no_outcome (no.Make entry.Memory line) = outcome.NoMemory
no_outcome no.NoMemory = outcome.NoMemory
no_outcome n = outcome.Refused

-- what is said of a frame behind its name
abbrev pub membership_text : Membership → List ℕ
membership_text member.Belongs = codes ": belongs"
membership_text (member.Outside at) = codes ": outside at " ++ hex_address at
membership_text member.WrongLength = codes ": refused 2"
membership_text member.NoMemory = codes ": out of memory"
membership_text member.Unread = codes ": cannot read"

-- what the line comes to
abbrev pub membership_outcome : Membership → Outcome
membership_outcome member.Belongs = outcome.Accepted
membership_outcome (member.Outside at) = outcome.Refused
membership_outcome member.WrongLength = outcome.Refused
membership_outcome member.NoMemory = outcome.NoMemory
membership_outcome member.Unread = outcome.Unread

-- with one line more that is counted
abbrev pub with_membership : BelongsTally → Membership → BelongsTally
with_membership t member.Belongs = record t { belongs = count_after true t.belongs }
with_membership t (member.Outside at) = record t { outside = count_after true t.outside }
with_membership t member.WrongLength = record t { refused = count_after true t.refused }
with_membership t member.NoMemory = record t { no_memory = count_after true t.no_memory }
with_membership t member.Unread = record t { unread = count_after true t.unread }

-- the line that tells how many frames belong, and how many don't
abbrev pub belongs_summary_text : BelongsTally → List ℕ
belongs_summary_text t = codes "belongs=" ++ decimal t.belongs ++ codes " outside=" ++ decimal t.outside
    ++ codes " refused-2=" ++ decimal t.refused ++ codes " unreadable=" ++ decimal t.unread
    ++ codes " out-of-memory=" ++ decimal t.no_memory ++ codes "\n"
