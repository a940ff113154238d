use Rattle.std.proofs.Common.{sym, subst, Ok}
use Rattle.dvg_make.specs.Private.Judged.{IsJudged}
use Rattle.dvg_kept.specs.Kept.{Kept}
use Rattle.dvg_kept.specs.Private.Own.{HasOwn}
use Rattle.dvg_kept.proofs.Verdict.{judged_yes}
use Rattle.dvg_kept.proofs.kept.KeptShapes.kept_verdict.Goals as goal

pub returns-clause-judged : goal.returns-clause-judged
returns-clause-judged c =
    let k : Kept = record { rom = c.self.inside.rom; window = c.self.inside.window; list = c.self.inside.entries } in
    let own : HasOwn k c.args.frame.now c.in_ok-own.own =
    subst (λ (x : Kept). HasOwn x c.args.frame.now c.in_ok-own.own) (sym c.self.view_is) c.in_ok-own.ensures in
    subst (λ (x : Kept). IsJudged x.rom c.args.frame.now x.window c.args.budget
    (Ok (record { shapes = c.in_ok-own.own; words = c.in_ok-accepted.accepted.words; depth = c.in_ok-accepted.accepted.depth })))
    c.self.view_is
    (judged_yes k c.args.frame.now c.in_ok-own.own own c.args.budget c.in_ok-accepted.accepted.words c.in_ok-accepted.accepted.depth
    c.in_ok-accepted.ensures.good c.in_ok-accepted.ensures.means)
