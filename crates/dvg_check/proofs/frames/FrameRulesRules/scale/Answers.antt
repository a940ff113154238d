use Rattle.dvg_check.proofs.Common.{rules}
use Rattle.dvg_check.proofs.frames.FrameRulesRules.scale.Goals as goal

pub returns-clause-value : goal.returns-clause-value
returns-clause-value c = search rules
