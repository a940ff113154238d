use Rattle.std.proofs.Common.{sym, subst, ◌∙◌, IfOk, IfErr, Ok}
use Rattle.dvg_make.proofs.Common.{Entry, List}
use Rattle.dvg_make.specs.Frames.{FrameMade}
use Rattle.dvg_make.specs.Judging.{AreLeast, FrameRefused, VerdictByMade}
use Rattle.dvg_kept.specs.Kept.{Kept, IsKept}
use Rattle.dvg_kept.proofs.Keeping.{kept_made}
use Rattle.dvg_kept.proofs.kept.KeptShapes.judge.Goals as goal

pub keep-requires : goal.keep-requires
keep-requires c =
    let made : FrameMade c.self.inside.rom c.args.frame.now c.in-Ok-Ok.judged.cert.entries =
    subst (λ r. IfOk r (λ j. FrameMade c.self.inside.rom c.args.frame.now j.cert.entries)) c.in-Ok-Ok.is-0
    c.explain_judging-judged.ensures.ok in
    let verdict : VerdictByMade c.self.inside.rom c.args.frame.now c.self.inside.window c.args.budget (Ok c.in-Ok-Ok.field-0-1) =
    subst (λ v. VerdictByMade c.self.inside.rom c.args.frame.now c.self.inside.window c.args.budget v)
    (sym c.own_verdict-verdict.ensures ∙ c.in-Ok-Ok.is-1) c.explain_judging-judged.ensures.verdict in
    subst (λ (l : List Entry). IsKept (record { rom = c.args.self.now.rom; window = c.args.self.now.window; list = l }))
    (sym c.entries.ensures.value)
    (subst (λ (x : Kept). IsKept (record { rom = x.rom; window = x.window; list = c.in-Ok-Ok.judged.cert.entries })) c.self.view_is
    (kept_made c.self.inside.rom c.self.inside.window c.args.frame.now c.in-Ok-Ok.judged.cert.entries c.self.invariant.0.rom_is made
    c.args.budget c.in-Ok-Ok.field-0-1 verdict))

pub returns-clause-least : goal.returns-clause-least
returns-clause-least c =
    subst (λ (x : Kept). IfOk c.own_verdict-verdict.result (λ yes. AreLeast x.rom c.args.frame.now x.window yes.words yes.depth))
    c.self.view_is
    (subst (λ v. IfOk v (λ yes. AreLeast c.self.inside.rom c.args.frame.now c.self.inside.window yes.words yes.depth))
    (sym c.own_verdict-verdict.ensures) c.explain_judging-judged.ensures.least)

pub returns-clause-refused : goal.returns-clause-refused
returns-clause-refused c =
    subst (λ (x : Kept). IfErr c.own_verdict-verdict.result (FrameRefused x.rom c.args.frame.now x.window c.args.budget)) c.self.view_is
    (subst (λ v. IfErr v (FrameRefused c.self.inside.rom c.args.frame.now c.self.inside.window c.args.budget))
    (sym c.own_verdict-verdict.ensures) c.explain_judging-judged.ensures.refused)
