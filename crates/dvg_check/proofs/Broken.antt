-- The rule that a fault names is broken by what stands there.
use Rattle.dvg_check.proofs.Common.{sym, ◌≡◌, ◌≢◌, ℕ, ap, ◌∙◌, subst, arith, Source, Context, seen_at, Known, IsFound, PlaceKeeps, SeenItem, FaultFound, Found}
use Rattle.dvg_check.specs.Finding.{Missing, Odd, Seen}
use Rattle.dvg_check.specs.Private.Breaking.{Breaks}
use Rattle.dvg_check.proofs.Faults.{neither_less}

-- where only one rule can be broken, it is that one
only : {Why : Type 0} (number : Why → ℕ) (rule : ℕ → Why) → ((why : Why) → rule (number why) ≡ why) → (why one : Why) → (why ≢ one → ⊥)
    → why ≡ one
only {Why} number rule back why one h =
    let same : number why ≡ number one = grind (arith, neither_less) in sym (back why) ∙ ap rule same ∙ back one

-- a fault, in rules that are told apart by their numbers
module _ {Why : Type 0} (number : Why → ℕ) (rule : ℕ → Why) (back : (why : Why) → rule (number why) ≡ why) (c : Context) (word : Source)
    (first : ℕ)
    (unmapped odd : Why) (keeps : SeenItem → Why → Type 0) (at : ℕ) (why : Why) (before : Known) (found : Found)
    (h : FaultFound number c word first (PlaceKeeps unmapped odd keeps c word) at why before found) where
  broken_at : (found : Found) → IsFound c word h.fault.items at found → Breaks unmapped odd keeps why found
  broken_at Missing stands = only number rule back why unmapped (rw stands at h.fault.breaks)
  broken_at Odd stands = only number rule back why odd (rw stands at h.fault.breaks)
  broken_at (Seen v) stands =
      λ kept. (rw stands.1 at h.fault.breaks)
      (subst (λ x. keeps x why) (stands.2
      ∙ ap (λ at. seen_at c h.fault.items (record { at = at; format = v.item.format; instr = v.item.instr })) stands.0) kept)

  pub broken : Breaks unmapped odd keeps why found
  broken = broken_at found h.stands
