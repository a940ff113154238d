use Rattle.std.proofs.Common.{sym, subst, ◌∙◌, IfOk, Ok}
use Rattle.dvg_make.proofs.Common.{Entry, List}
use Rattle.dvg_make.specs.Frames.{FrameMade}
use Rattle.dvg_make.specs.Judging.{VerdictByMade}
use Rattle.dvg_kept.specs.Kept.{IsKept}
use Rattle.dvg_kept.proofs.Keeping.{kept_made}
use Rattle.dvg_kept.proofs.timed.TimedShapes.judge.Goals as goal

pub keep-requires : goal.keep-requires
keep-requires c =
    let at = c.in-Ok-Ok in
    let cert = at.made.cert.entries in
    let rom = c.args.self.now.kept.rom in
    let window = c.args.self.now.kept.window in
    let said = c.judged_anew-judged.ensures in
    let made : FrameMade rom c.args.frame.now cert =
    subst (λ r. IfOk r (λ j. FrameMade rom c.args.frame.now j.cert.entries)) at.is-0 said.made in
    let verdict : VerdictByMade rom c.args.frame.now window c.args.budget (Ok at.field-0-1) =
    subst (VerdictByMade rom c.args.frame.now window c.args.budget) (sym c.own_verdict-verdict.ensures ∙ at.is-1) said.own in
    subst (λ (l : List Entry). IsKept (record { rom = rom; window = window; list = l })) (sym c.entries.ensures.value)
    (kept_made rom window c.args.frame.now cert said.rom made c.args.budget at.field-0-1 verdict)
