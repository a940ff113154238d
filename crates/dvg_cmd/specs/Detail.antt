-- What a run writes behind the line of an answer. All of it is this project's own.
use Rattle.std.specs.Prelude.{◌≡◌, ◌≢◌, ℕ, Bool, true, false, List, [], Option, None, Some, Result, Ok, Err, String, codes, string_bytes}
use Rattle.std.specs.Global.{Global}
use Rattle.std.specs.declared.alloc.AllocError.{AllocError}
use Rattle.dvg_spelling.specs.Outcomes.{worse}
use Rattle.dvg_spelling.specs.declared.outcome.Outcome.{Outcome}
use Rattle.dvg_spelling.specs.declared.outcome.Outcome.TheVariants.{NoMemory}
pub use Rattle.dvg_cmd.specs.declared.detail.Detail.{Detail}
pub use Rattle.dvg_cmd.specs.declared.detail.Detail.TheVariants as detail

-- whether an account is written
abbrev pub has_account : Detail → Bool
has_account detail.Line = false
has_account (detail.Account labels) = true

-- what is written in the place of an account for which there was no memory
abbrev pub no_account : List ℕ
no_account = codes "account: out of memory\n"

-- what is written behind a line: an account, if there is one, or that there was no memory for it
abbrev pub Behind : Type 0
Behind = Result (Option (String Global)) AllocError

-- what a detail asks for behind a line: nothing, or else an account, or that there was no memory for it
abbrev pub IsBehind : Detail → Behind → Type 0
IsBehind detail.Line what = what ≡ Ok None
IsBehind (detail.Account labels) what = what ≢ Ok None

-- the text that is written behind a line
abbrev pub behind_text : Behind → List ℕ
behind_text (Ok None) = []
behind_text (Ok (Some account)) = string_bytes account
behind_text (Err out_of_memory) = no_account

-- the outcome of a line and of what is behind it: the worse of the two, if there was no memory for the account
abbrev pub outcome_behind : Behind → Outcome → Outcome
outcome_behind (Ok account) line = line
outcome_behind (Err out_of_memory) line = worse line NoMemory
