use Rattle.dvg_survey.proofs.Common.{sym, ◌∙◌}
use Rattle.dvg_survey.proofs.Tracing.{goes_back}
use Rattle.dvg_survey.proofs.reached.Reached.chain.Goals as goal

pub loop-next-preserved : goal.loop-next-preserved
loop-next-preserved c =
    goes_back c.args.self.now c.args.last c.loop-next.next c.in-Some.at c.in-Some-get.link c.loop-next.chain.items c.push.new.self.items
    c.requires.backward c.in-Some.is (sym c.get.ensures ∙ c.in-Some-get.is) c.in_ok-push.ensures.items c.loop-next.invariant
