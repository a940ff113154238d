-- The verdict on a frame by the certificate that is made for it. All of it is this project's own.
use Rattle.std.specs.Prelude.{ℕ, ◌≤◌, List, [], ◌∷◌, Option, Some, None, Result, Ok, Err}
use Rattle.dvg_words.specs.Memory.{Rom}
use Rattle.dvg_words.specs.Values.{Window}
use Rattle.dvg_cert.specs.declared.entry.Entry.{Entry}
use Rattle.dvg_check.specs.Verdict.{PartsVerdict}
use Rattle.dvg_check.specs.declared.fault.Mode.{Mode}
use Rattle.dvg_check.specs.declared.fault.Mode.TheVariants.{Exact}
use Rattle.dvg_check.specs.declared.verdict.Yes.{Yes}
use Rattle.dvg_check.specs.declared.verdict.Refusal.{Refusal}
use Rattle.dvg_check.specs.declared.verdict.Refusal.TheVariants as refusal
use Rattle.dvg_check.specs.Causes.{refusal_of}
use Rattle.dvg_check.specs.declared.finding.Finding.{Finding}
pub use Rattle.dvg_make.specs.declared.judging.FrameRefusal.{FrameRefusal}
pub use Rattle.dvg_make.specs.declared.judging.FrameRefusal.TheVariants.{Make, NoMemory, Check}
pub use Rattle.dvg_make.specs.declared.judging.JudgedFrame.{JudgedFrame}
use Rattle.dvg_make.specs.declared.account.MakeAccount.{MakeAccount}
use Rattle.dvg_make.specs.Frames.{FrameMade}
use Rattle.dvg_make.specs.Accounts.{HasCause}
use Rattle.dvg_make.specs.Refusals.{EntryFault, Memory, FrameCall, FramesFault, Accepts, BarsList, BarsFrame, CallBarredAt}

-- no certificate gets the frame accepted in this window with fewer words, or less depth (profile)
abbrev pub AreLeast : Rom → List ℕ → Window → ℕ → ℕ → Type 0
AreLeast rom words w count depth =
    (mode : Mode) (list : List Entry) (budget n d : ℕ) → Accepts rom words w mode list budget n d → (count ≤ n) × (depth ≤ d)

-- no certificate gets the frame accepted within this budget (profile)
abbrev pub NoneWithin : Rom → List ℕ → Window → ℕ → Type 0
NoneWithin rom words w most =
    (mode : Mode) (list : List Entry) (budget n d : ℕ) → budget ≤ most → Accepts rom words w mode list budget n d → ⊥

-- what a refusal of the checker means, by the made certificate: only these two come here, since no index is made (profile)
abbrev pub CheckMeans : Rom → List ℕ → Window → ℕ → Refusal → Type 0
CheckMeans rom words w budget (refusal.Shape f) = NoneWithin rom words w budget
CheckMeans rom words w budget (refusal.Frame f) = NoneWithin rom words w budget
CheckMeans rom words w budget r = ⊥

-- what a refusal means: no certificate gets the frame accepted. After 62 for too many entries, where each made list is too
-- long, another certificate may; a want of memory says nothing, and never comes with a call (profile)
abbrev pub FrameRefused : Rom → List ℕ → Window → ℕ → FrameRefusal → Type 0
FrameRefused rom words w budget (Make at Memory) = ⊥
FrameRefused rom words w budget (Make at why) = BarsList rom [] (words ∷ []) why × BarsFrame rom words why
FrameRefused rom words w budget NoMemory = Unit {0}
FrameRefused rom words w budget (Check r) = CheckMeans rom words w budget r

-- the frame has a made list, and this is the checker's answer by that list (profile)
pub record ByMade (rom : Rom) (words : List ℕ) (w : Window) (budget : ℕ) (answer : Result Yes Refusal) : Type 0 where
  pub list : List Entry
  pub made : FrameMade rom words list
  pub verdict : PartsVerdict Exact w rom list words budget answer

-- the verdict on a frame by its own certificate (profile)
abbrev pub VerdictByMade : Rom → List ℕ → Window → ℕ → Result Yes FrameRefusal → Type 0
VerdictByMade rom words w budget (Ok y) = ByMade rom words w budget (Ok y)
VerdictByMade rom words w budget (Err (Check r)) = ByMade rom words w budget (Err r)
VerdictByMade rom words w budget (Err (Make at why)) = CallBarredAt rom words at why
VerdictByMade rom words w budget (Err NoMemory) = Unit {0}

-- a refusal at a call of the frame has a cause (profile)
abbrev pub HasCallCause : Rom → List ℕ → FrameRefusal → Type 0
HasCallCause rom words (Make at why) = HasCause rom [] (words ∷ []) (record { call = Some (record { frame = 0; at = at }); why = why })
HasCallCause rom words NoMemory = Unit {0}
HasCallCause rom words (Check r) = Unit {0}

-- the refusal of a frame whose certificate can't be made, by the call that the maker stops at. Where it names no call, memory was
-- out (profile)
abbrev pub refusal_at : Option FrameCall → EntryFault → FrameRefusal
refusal_at None why = NoMemory
refusal_at (Some call) Memory = NoMemory
refusal_at (Some call) why = Make call.at why

-- the refusal of a frame by the maker's
abbrev pub refusal_by : FramesFault → FrameRefusal
refusal_by fault = refusal_at fault.call fault.why

-- the verdict on a frame by a made certificate, with the refusal alone (profile)
abbrev pub checked : Result Yes Finding → Result Yes FrameRefusal
checked (Ok y) = Ok y
checked (Err f) = Err (Check (refusal_of f))

-- the verdict on a frame, by the certificate that was made or by why none is (profile)
abbrev pub own_verdict : Result JudgedFrame MakeAccount → Result Yes FrameRefusal
own_verdict (Ok judged) = checked judged.verdict
own_verdict (Err account) = Err (refusal_by account.fault)
