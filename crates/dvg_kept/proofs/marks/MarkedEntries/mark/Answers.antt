use Rattle.std.proofs.Common.{arith, ◌≡◌, ◌<◌, ◌+◌, slice_set, Some, true, false, slice_get, length, sym, subst, refl}
use Rattle.std.proofs.lemmas.Option.{slice_get_read}
use Rattle.std.proofs.lemmas.Grind.{common_steps}
use Rattle.dvg_kept.specs.Private.Marks.{Marks, MarksOne}
use Rattle.dvg_kept.proofs.Marking.{counted_done, one_done, one_same, trues_less}
use Rattle.dvg_kept.proofs.marks.MarkedEntries.mark.Goals as goal

pub overflow_add-self : goal.overflow_add-self
overflow_add-self c =
    let within : c.args.position < length c.self.inside.marked.items =
    subst (λ (m : Marks). c.args.position < length m.marked) (sym c.self.view_is) c.requires in
    let free : slice_get c.self.inside.marked.items c.args.position ≡ Some false =
    slice_get_read c.self.inside.marked.items (length c.self.inside.marked.items) c.args.position false refl within
    (grind (arith, common_steps, c.if-not-index.true)) in
    grind (
      arith,
      (trues_less c.self.inside.marked.items c.args.position free),
      c.self.invariant.count_is,
      c.self.inside.marked.ok,
      c.self.inside.marked.small,
    )

-- src/marks.rt:63:13
pub invariant_of-self : goal.invariant_of-self
invariant_of-self c =
    let within : c.args.position < length c.self.inside.marked.items =
    subst (λ (m : Marks). c.args.position < length m.marked) (sym c.self.view_is) c.requires in
    let free : slice_get c.self.inside.marked.items c.args.position ≡ Some false =
    slice_get_read c.self.inside.marked.items (length c.self.inside.marked.items) c.args.position false refl within
    (grind (arith, common_steps, c.if-not-index.true)) in
    counted_done (record { marked = c.self.inside.marked.items; waiting = c.self.inside.waiting.items; count = c.self.inside.count })
    c.self.invariant c.args.position free

-- src/marks.rt:57:5
pub returns-then-not-index : goal.returns-then-not-index
returns-then-not-index c =
    let within : c.args.position < length c.self.inside.marked.items =
    subst (λ (m : Marks). c.args.position < length m.marked) (sym c.self.view_is) c.requires in
    let free : slice_get c.self.inside.marked.items c.args.position ≡ Some false =
    slice_get_read c.self.inside.marked.items (length c.self.inside.marked.items) c.args.position false refl within
    (grind (arith, common_steps, c.if-not-index.true)) in
    subst (λ (m : Marks). MarksOne (Unit {0}) c.args.position m
    (record {
      marked = slice_set c.self.inside.marked.items c.args.position true;
      waiting = c.self.inside.waiting.items;
      count =
          c.self.inside.count + 1;
    })) c.self.view_is
    (one_done (record { marked = c.self.inside.marked.items; waiting = c.self.inside.waiting.items; count = c.self.inside.count })
    c.self.invariant c.args.position free)

-- src/marks.rt:57:5
pub returns-else-not-index : goal.returns-else-not-index
returns-else-not-index c =
    one_same c.args.self.now c.args.position (subst (λ (m : Marks). slice_get m.marked c.args.position ≡ Some true) c.self.view_is
    (slice_get_read c.self.inside.marked.items (length c.self.inside.marked.items) c.args.position true refl
    (subst (λ (m : Marks). c.args.position < length m.marked) (sym c.self.view_is) c.requires)
    (grind (arith, common_steps, c.if-not-index.false))))
