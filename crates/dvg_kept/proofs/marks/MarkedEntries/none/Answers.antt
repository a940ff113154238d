use Rattle.std.proofs.Common.{arith, sym, ap, subst, ◌∙◌, [], false, ℕ, List, ◌≡◌}
use Rattle.std.specs.Prelude.{Contains, replicate}
use Rattle.dvg_kept.proofs.Marking.{trues_none}
use Rattle.dvg_kept.specs.Private.Marks.{trues}
use Rattle.dvg_kept.proofs.marks.MarkedEntries.none.Goals as goal

-- src/marks.rt:50:9
pub invariant_of-result : goal.invariant_of-result
invariant_of-result c =
    let items : c.in_ok-marked.marked.items ≡ replicate c.args.len false =
    c.in_ok-marked.ensures.items_if_clones_equal (λ y h. grind (arith, h)) in
    record {
      count_is = sym (ap trues items ∙ trues_none c.args.len);
      wait = λ q w. let none : Contains [] q =
          subst (λ (x : List ℕ). Contains x q) c.in_ok-waiting.ensures.items w in absurd (omega (arith, none.1));
    }
