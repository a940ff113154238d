use Rattle.std.proofs.Common.{arith, ◌+◌, ◌<◌, sym, subst, ◌∙◌, List, length}
use Rattle.std.proofs.lemmas.List.Elements.{Contains-get_or}
use Rattle.dvg_make.proofs.Common.{Entry}
use Rattle.dvg_make.proofs.Adding.{Added, more_added, same_added, some_of}
use Rattle.dvg_make.proofs.merged_entries.merged.Goals.{then-is_none+in_ok-add, else-is_none}
use Rattle.dvg_make.proofs.merged_entries.merged.Goals as goal

pub add-requires-clause-claim : goal.add-requires-clause-claim
add-requires-clause-claim c =
    c.requires _ (Contains-get_or c.args.made.now c.loop-entry.entry-index _ (omega (arith, c.loop-entry-test.true)))

pub loop-entry-preserved : goal.loop-entry-preserved
loop-entry-preserved c =
    let n = c.loop-entry.entry-index in
    let lt : n < length c.args.made.now = omega (arith, c.loop-entry-test.true) in
    elim c.if-is_none.branch [
      | then-is_none+in_ok-add w ↦
          subst (λ (l : List Entry). Added c.args.entries c.args.made.now (n + 1) l) (sym (w.merged-is ∙ w.in_ok-add.ensures.ok))
          (more_added c.args.entries c.args.made.now n c.loop-entry.merged c.loop-entry.invariant lt _)
      | else-is_none w ↦
          let has = some_of _ _ c.is_none.ensures w.if-is_none.false in
          subst (λ (l : List Entry). Added c.args.entries c.args.made.now (n + 1) l) (sym w.merged-is)
          (same_added c.args.entries c.args.made.now n c.loop-entry.merged c.loop-entry.invariant lt _ has.0 (sym c.find.ensures.entry ∙ has.1))
    ]
