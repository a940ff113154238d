use Rattle.dvg_survey.proofs.Common.{ℕ, ap, sym, ◌∙◌, Shape, callee_at, seen_with, target}
use Rattle.dvg_survey.proofs.OwnExtents.{passed_seen}
use Rattle.dvg_survey.proofs.extents.pass_item.Goals as goal

pub returns-in-Abs-clause-passed : goal.returns-in-Abs-clause-passed
returns-in-Abs-clause-passed g c known alike =
    let list = g.E.Entries.list c.args.entries.now in
    let here = c.args.here.now in
    let i = c.args.item.now in
    passed_seen c.args.machine list i known here.known alike c.args.lit.now _ c.see_by-seen.result
    (c.see_by-seen.ensures.value ∙ ap (λ (p : ℕ). seen_with c.args.machine (callee_at list (target Shape i.instr) here.known.scale) here.known
    (record { at = p; format = i.format; instr = i.instr })) (sym c.requires.item.0)) c.lit_with.ensures
