use Rattle.dvg_survey.proofs.Linking.{reach_more}
use Rattle.dvg_survey.proofs.reached.Reached.add_all.Goals as goal

pub loop-call-preserved : goal.loop-call-preserved
loop-call-preserved c =
    reach_more c.args.self.now c.args.from c.args.calls.now c.loop-call.call-index _ c.loop-call.self c.add.new.self
    c.loop-call-test.true c.loop-call.invariant c.in_ok-add.ensures
