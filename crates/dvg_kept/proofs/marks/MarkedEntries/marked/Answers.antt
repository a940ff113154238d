use Rattle.std.proofs.Common.{rules, ◌≡◌, ◌∙◌, ◌<◌, ap, length, Bool, List, true, false, get_or, sym, subst}
use Rattle.dvg_kept.specs.Private.Marks.{Marks}
use Rattle.dvg_kept.proofs.Picking.{read_at, picked_more, picked_same}
use Rattle.dvg_kept.proofs.marks.MarkedEntries.marked.Goals as goal
use Rattle.dvg_kept.proofs.marks.MarkedEntries.marked.Goals.{then-is_marked+in-Some+in_ok-push, then-is_marked+in_default, else-is_marked}

pub loop-position-preserved : goal.loop-position-preserved
loop-position-preserved c =
    let ms = c.args.self.now.marked in
    let i = c.loop-position.position in
    let all : c.deref-is_marked-items.result.now ≡ ms = c.deref-is_marked-items.ensures.value ∙ ap (λ (x : Marks). x.marked) c.self.view_is in
    let lt : i < length ms = subst (λ (l : List Bool). i < length l) all c.loop-position-test.true in
    elim c.if-is_marked.branch [
      | then-is_marked+in-Some+in_ok-push w ↦
          let is : get_or ms i false ≡ true = subst (λ (l : List Bool). get_or l i false ≡ true) all w.if-is_marked.true in
          let more = picked_more ms c.args.entries.now i w.in-Some.entry (read_at ms i true false lt is) (sym w.in-Some.ensures) in
          search rules
      | then-is_marked+in_default w ↦
          let is : get_or ms i false ≡ true = subst (λ (l : List Bool). get_or l i false ≡ true) all w.if-is_marked.true in
          let same = picked_same ms c.args.entries.now i true (read_at ms i true false lt is) (λ t. sym w.in_default.ensures) in
          search rules
      | else-is_marked w ↦
          let is : get_or ms i false ≡ false = subst (λ (l : List Bool). get_or l i false ≡ false) all w.if-is_marked.false in
          let same = picked_same ms c.args.entries.now i false (read_at ms i false false lt is) (λ t. absurd (cc t)) in
          search rules
    ]
