use Rattle.std.proofs.Common.{sym, subst}
use Rattle.dvg_kept.specs.Kept.{Kept}
use Rattle.dvg_kept.specs.Private.Own.{HasOwn}
use Rattle.dvg_kept.proofs.OwnList.{own_list}
use Rattle.dvg_kept.proofs.kept.KeptShapes.own_entries.Goals as goal

pub returns : goal.returns
returns c =
    let k : Kept = record { rom = c.self.inside.rom; window = c.self.inside.window; list = c.self.inside.entries } in
    subst (λ (x : Kept). HasOwn x c.args.frame.now c.count.result) c.self.view_is
    (subst (λ n. HasOwn k c.args.frame.now n) (sym c.count.ensures.value)
    (own_list k c.self.invariant.0 c.args.frame.now c.in_ok-marks.marks c.in_ok-marks.ensures c.count.ensures.counted))
