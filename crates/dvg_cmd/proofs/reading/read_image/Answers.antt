use Rattle.dvg_cmd.proofs.Common.{rules, limited}
use Rattle.dvg_cmd.proofs.reading.read_image.Goals as goal

pub returns-clause-bytes : goal.returns-clause-bytes
unfolding limited
returns-clause-bytes g c = search rules

pub returns-clause-read : goal.returns-clause-read
unfolding limited
returns-clause-read g c = search rules

pub returns-clause-count : goal.returns-clause-count
unfolding limited
returns-clause-count g c = search rules
