-- The calls below an entry that go deepest, by the claims of a list. All of it is this project's own.
use Rattle.std.specs.Prelude.{◌≡◌, ℕ, zero, suc, ◌<◌, List, [], ◌∷◌, Some}
use Rattle.std.specs.List.{AllByRecursion}
use Rattle.dvg_words.specs.Memory.{Rom}
use Rattle.dvg_cert.specs.declared.entry.Entry.{Entry}
use Rattle.dvg_items.specs.Known.{depth_under, shape_context}
use Rattle.dvg_survey.specs.Calls.{Call, calls_among}
use Rattle.dvg_survey.specs.Chains.{IsShapeCall}

-- the call stands in an entry's shape and bears out the claimed depth, which is not 0: the call's entry claims one less, or of a
-- tail jump the same (profile)
pub record BearsOut (rom : Rom) (list : List Entry) (e : Entry) (call : Call) : Type 0 where
  pub calls : IsShapeCall rom list e call
  pub some : 0 < e.depth
  pub depth : depth_under calls.item.instr (Some call.entry) ≡ e.depth

-- the call does not bear it out (profile)
abbrev pub BearsNot : Rom → List Entry → Entry → Call → Type 0
BearsNot rom list e call = BearsOut rom list e call → ⊥

-- the call bears it out, and no call before it does (profile)
abbrev pub FirstBears : Rom → List Entry → Entry → Call → Type 0
FirstBears rom list e call =
    (b : BearsOut rom list e call) × AllByRecursion (BearsNot rom list e) (calls_among (shape_context rom.machine list e) b.calls.earlier)

-- each of these calls is the first that bears out the depth of the entry before it; they end where none does, or when they are so
-- many (profile)
abbrev pub GoDeepest : ℕ → Rom → List Entry → Entry → List Call → Type 0
GoDeepest zero rom list e calls = calls ≡ []
GoDeepest (suc most) rom list e [] = (call : Call) → BearsNot rom list e call
GoDeepest (suc most) rom list e (call ∷ rest) = FirstBears rom list e call × GoDeepest most rom list call.entry rest
