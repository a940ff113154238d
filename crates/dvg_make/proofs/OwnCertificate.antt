-- A frame judged by the certificate that is made for it.
use Rattle.dvg_make.proofs.Common.{Machine, ◌≡◌, ℕ, ◌≤◌, List, [], ◌∷◌, Option, None, Some, subst, arith, Result, Ok, Err, Rom, frame_word, Window, Entry, frame_context, seen_at, GoodFrame, Exact, EntryFault, Memory, FrameCall, FramesRefuse, FrameRefused, max, IfOk, IfErr, Frame, AllKeep, FramePlaceKeeps, Means, no_fault, no_shape_fault, one_count, FrameMade, BarsFrame, CallBarredAt, VerdictByMade, AreLeast, CheckMeans, checked, refusal_at, IsJudged}
use Rattle.dvg_check.specs.Verdict.{PartsVerdict}
use Rattle.dvg_check.specs.Causes.{verdict_of, refusal_of}
use Rattle.dvg_check.specs.declared.finding.Finding.{Finding}
use Rattle.dvg_check.specs.declared.verdict.Yes.{Yes}
use Rattle.dvg_check.specs.declared.verdict.Refusal.{Refusal}
use Rattle.dvg_check.specs.declared.verdict.Refusal.TheVariants as refusal
use Rattle.dvg_make.proofs.FrameBest.{none_better}

-- ---- budgets

module _ (machine : Machine) (w : Window) (words : List ℕ) (list : List Entry) where
  -- a frame that is good within a budget is so within each greater one
  raised : (a b count depth : ℕ) → a ≤ b → GoodFrame w machine words list a count depth → GoodFrame w machine words list b count depth
  raised a b count depth le g =
      let keeps : AllKeep Frame (frame_word machine words) 0 (FramePlaceKeeps w machine words list b) =
      λ earlier p lead why. grind (arith, seen_at, frame_context, (g.keeps earlier p lead why)) in
      search keeps

-- ---- the verdict

-- a refusal because of an item: no index is made, and lengths and budget are right
abbrev IsOfItem : Refusal → Type 0
IsOfItem (refusal.Shape f) = Unit {0}
IsOfItem (refusal.Frame f) = Unit {0}
IsOfItem r = ⊥

module _ (rom : Rom) (words : List ℕ) (w : Window) (budget : ℕ) (made : List Entry) (m : FrameMade rom words made) where
  -- the counts by the made certificate are the least
  judged_least : (y : Yes) → PartsVerdict Exact w rom made words budget (Ok y) → AreLeast rom words w y.words y.depth
  judged_least y v mode list b n d a =
      let best = none_better rom words w mode list made b n d a m in
      let here = raised rom.machine w words made budget (max budget b) y.words y.depth (omega arith) v.1 in
      let there = raised rom.machine w words made b (max budget b) best.0 best.1 (omega arith) best.4.frame in
      let same = one_count w rom.machine words made (max budget b) y.words y.depth best.0 best.1 here there in
      (omega (arith, same.count_is, best.2), omega (arith, same.depth_is, best.3))

  judged_refused : (r : Refusal) → IsOfItem r → PartsVerdict Exact w rom made words budget (Err r) → CheckMeans rom words w budget r
  judged_refused (refusal.Shape f) item v =
      λ mode list b n d le a. no_shape_fault Exact w rom made f (none_better rom words w mode list made b n d a m).4.good v
  judged_refused (refusal.Frame f) item v = λ mode list b n d le a.
      let best = none_better rom words w mode list made b n d a m in
      no_fault w rom.machine words made budget best.0 best.1 f (raised rom.machine w words made b budget best.0 best.1 le best.4.frame) v.1
  judged_refused r item v = absurd item

  -- the checker's answer by the made certificate has each clause of `judge`
  pub judged_by : (answer : Result Yes Finding)
      → IfErr answer (λ f. IsOfItem (refusal_of f))
      → PartsVerdict Exact w rom made words budget (verdict_of answer)
      → IfOk answer (λ yes. Means Exact (record { frame = words; rom = rom }) w yes.words yes.depth)
      → IsJudged rom words w budget (checked answer)
  judged_by (Ok y) item v means = grind (arith, (judged_least y v))
  judged_by (Err f) item v means = grind (arith, (judged_refused (refusal_of f) item v))

-- what the fault of the maker means, of one frame
module _ (rom : Rom) (words : List ℕ) where
  here : (call : FrameCall) (why : EntryFault) → FramesRefuse rom [] (words ∷ []) (record { call = Some call; why = why })
      → CallBarredAt rom words call.at why × BarsFrame rom words why
  here call why h =
      let f = h.frame in
      let same : f.0 ≡ words = grind (arith, f.1) in
      (subst (λ x. CallBarredAt rom x call.at why) same f.2, subst (λ x. BarsFrame rom x why) same f.3)

  pub made_refused : (w : Window) (budget : ℕ) (call : Option FrameCall) (why : EntryFault)
      → FramesRefuse rom [] (words ∷ []) (record { call = call; why = why }) → FrameRefused rom words w budget (refusal_at call why)
  made_refused w budget None why h = tt
  made_refused w budget (Some call) Memory h = tt
  made_refused w budget (Some call) why h = (h.list, (here call why h).1)

  pub made_verdict : (w : Window) (budget : ℕ) (call : Option FrameCall) (why : EntryFault)
      → FramesRefuse rom [] (words ∷ []) (record { call = call; why = why }) → VerdictByMade rom words w budget (Err (refusal_at call why))
  made_verdict w budget call why h = grind (arith, here)
