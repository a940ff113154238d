use Rattle.dvg_check.proofs.Common.{subst, sym, ◌+◌, ◌≡◌, Point, rules, w64, to_z-of_z, SFits, IsNear, IsNearBox, moved}
use Rattle.dvg_check.proofs.TailSizes.{IsNearBox-moved}
use Rattle.dvg_check.proofs.tail.lit_over.Goals as goal

pub returns-in-Rel-default-clause-near : goal.returns-in-Rel-default-clause-near
returns-in-Rel-default-clause-near c =
    λ n near.
    let by : Point = record { x = c.in-Rel-default.x; y = c.in-Rel-default.y } in
    let fx : SFits w64 c.in-Rel-default.x = search rules in
    let fy : SFits w64 c.in-Rel-default.y = search rules in
    let is : c.moved.result ≡ moved c.args.lit.now by = simp to_z-of_z at c.moved.ensures in
    let d : IsNear 1 by = rw c.in-Rel-default.is-0 at c.requires.place in
    subst (IsNearBox (n + 1)) (sym is) (IsNearBox-moved n c.args.lit.now by near d)

pub returns-in-Lost-default-clause-part : goal.returns-in-Lost-default-clause-part
returns-in-Lost-default-clause-part c = search rules
