use Rattle.std.specs.List.Sorted.{IsStrictlySortedBy}
use Rattle.dvg_account.proofs.remarked.frame_remarks.Goals as goal

pub returns-in_default : goal.returns-in_default
unfolding IsStrictlySortedBy
returns-in_default c = rw c.new.ensures.items tt
