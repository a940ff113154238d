use Rattle.dvg_cmd.proofs.Common.{subst, sym}
use Rattle.dvg_cmd.specs.Frames.{VerdictBy}
use Rattle.dvg_cmd.proofs.Answers.{own_verdict}
use Rattle.dvg_cmd.proofs.frame_judge.OwnCertificates.timed_verdict.Goals as goal

pub returns-after-timed-clause-verdict : goal.returns-after-timed-clause-verdict
returns-after-timed-clause-verdict c =
    let own = c.args.self.now in
    let said = c.explain_timed-timed.ensures in
    subst (VerdictBy own c.args.frame.now) (sym c.own_verdict.ensures)
    (own_verdict own c.args.frame.now c.in-Ok.frame c.in-Ok.rom c.in-Ok.ensures.ok _
    (record { verdict = said.own; means = said.means; least = said.least; refused = said.refused; told = said.told }))
