use Rattle.dvg_items.proofs.Common.{◌+◌, ◌≡◌, refl, sym, subst, rules, w64, to_z-of_z, SFits, shift}
use Rattle.dvg_items.specs.Bounds.{ITEM_REACH, IsNear, IsNearPlace, IsNearEffect}
use Rattle.dvg_items.proofs.Reached.{reached_shift}
use Rattle.dvg_items.proofs.known.place_past.Goals as goal

pub returns-in-Moves-Rel-clause-near : goal.returns-in-Moves-Rel-clause-near
returns-in-Moves-Rel-clause-near c at near =
    let x : SFits w64 c.in-Moves-Rel.x = search rules in
    let y : SFits w64 c.in-Moves-Rel.y = search rules in
    let to_x : SFits w64 c.shift-p.result.x = search rules in
    let to_y : SFits w64 c.shift-p.result.y = search rules in
    let is : c.shift-p.result ≡ shift (record { x = c.in-Moves-Rel.x; y = c.in-Moves-Rel.y }) c.in-Moves-Rel.d = simp to_z-of_z at c.shift-p.ensures in
    simp to_z-of_z
    (subst (IsNear (at + 1)) (sym is)
    (reached_shift ITEM_REACH at 1 (at + 1) (record { x = c.in-Moves-Rel.x; y = c.in-Moves-Rel.y }) c.in-Moves-Rel.d refl
    (subst (IsNearPlace at) c.in-Moves-Rel.is-1 near) (subst IsNearEffect c.in-Moves-Rel.is-0 c.requires.effect)))

pub returns-in-Moves-Abs-clause-near : goal.returns-in-Moves-Abs-clause-near
returns-in-Moves-Abs-clause-near c at near =
    let x : SFits w64 c.in-Moves-Abs.x = search rules in
    let y : SFits w64 c.in-Moves-Abs.y = search rules in
    let to_x : SFits w64 c.shift-p-in-Moves-Abs.result.x = search rules in
    let to_y : SFits w64 c.shift-p-in-Moves-Abs.result.y = search rules in
    let is : c.shift-p-in-Moves-Abs.result ≡ shift (record { x = c.in-Moves-Abs.x; y = c.in-Moves-Abs.y }) c.in-Moves-Abs.d =
    simp to_z-of_z at c.shift-p-in-Moves-Abs.ensures in
    simp to_z-of_z
    (subst (IsNear (at + 1)) (sym is)
    (reached_shift ITEM_REACH at 1 (at + 1) (record { x = c.in-Moves-Abs.x; y = c.in-Moves-Abs.y }) c.in-Moves-Abs.d refl
    (subst (IsNearPlace at) c.in-Moves-Abs.is-1 near) (subst IsNearEffect c.in-Moves-Abs.is-0 c.requires.effect)))
