-- The numbers of the refusals of a recipe's text (profile).
use Rattle.std.specs.Prelude.{ℕ}
use Rattle.dvg_recipe_text.specs.declared.fault.RecipeTextWhy.{RecipeTextWhy}
use Rattle.dvg_recipe_text.specs.declared.fault.RecipeTextWhy.TheVariants.{Form, Undefined, Several, DefinedTwice, Unended, After, LineTooLong, TooManyLines, TooDeep, TooManyPieces, TooManyOptions, Memory}

-- the number of a refusal (profile)
abbrev pub text_number : RecipeTextWhy → ℕ
text_number Form = 51
text_number Undefined = 52
text_number Several = 52
text_number DefinedTwice = 52
text_number Unended = 53
text_number After = 54
text_number LineTooLong = 55
text_number TooManyLines = 55
text_number TooDeep = 55
text_number TooManyPieces = 55
text_number TooManyOptions = 55
text_number Memory = 56
