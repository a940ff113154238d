use Rattle.dvg_check.proofs.Common.{set_number}
use Rattle.dvg_check.proofs.needed.keys_left.Given as goal

abbrev pub decreases-keys : goal.decreases-keys
decreases-keys g l = set_number l.before
