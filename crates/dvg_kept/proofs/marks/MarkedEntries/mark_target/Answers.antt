use Rattle.std.proofs.Common.{arith, Some, refl, subst, sym}
use Rattle.std.proofs.lemmas.Grind.{common_steps}
use Rattle.dvg_kept.specs.Private.Marks.{IsCalledAt, MarksOne}
use Rattle.dvg_kept.proofs.Marking.{weaker}
use Rattle.dvg_kept.proofs.marks.MarkedEntries.mark_target.Goals as goal

-- src/marks.rt:82:5
pub returns : goal.returns
returns c =
    let one : MarksOne ⊥ c.in_ok-position.position c.args.self.now c.mark_waiting.new.self =
    grind (arith, common_steps, c.mark_waiting.ensures, c.ok.ensures.variant, c.in_ok-ok.is) in
    subst (λ t. IsCalledAt c.args.entries.now c.args.leaves.now t c.args.scale c.args.self.now c.mark_waiting.new.self
    (Some c.in_ok-position.entry)) (sym c.in-Some.is) (
      c.in_ok-position.entry,
      refl,
      record {
        position = c.in_ok-position.position;
        found = c.in_ok-position.ensures.found;
        stands = c.in_ok-position.ensures.stands;
        one = weaker _ _ _ (λ no_reason. absurd no_reason) one;
      },
    )
