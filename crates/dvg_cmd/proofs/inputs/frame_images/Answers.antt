use Rattle.dvg_cmd.proofs.Common.{arith, common_steps}
use Rattle.dvg_cmd.proofs.SeveralFrames.{wrong_here, frames_next, words_next}
use Rattle.dvg_cmd.proofs.inputs.frame_images.Goals as goal

pub loop-frame-preserved : goal.loop-frame-preserved
loop-frame-preserved c = grind (arith, wrong_here, frames_next, words_next, common_steps)
