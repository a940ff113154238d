use Rattle.dvg_make.proofs.OneFrame.{one_frames_made as law}
use Rattle.dvg_make.proofs.laws.one_frames_made.Goals as goal

pub returns : goal.returns
returns c = law
