use Rattle.dvg_check.proofs.Common.{subst}
use Rattle.dvg_check.proofs.Accepting.{IsAccepted, accepted}
use Rattle.dvg_check.proofs.judged.JudgedShapes.judge_frame.Goals as goal

pub returns-clause-means : goal.returns-clause-means
returns-clause-means g c =
    subst (IsAccepted c.args.frame.now c.judge_frame.result) c.self.view_is
    (accepted _ c.args.frame.now c.args.budget c.judge_frame.result c.self.invariant c.prove_whole.ensures
    c.prove_for_board.ensures (rw c.machine-machine.ensures at c.judge_frame.ensures.ok))
