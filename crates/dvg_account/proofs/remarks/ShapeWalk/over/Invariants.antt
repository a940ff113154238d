use Rattle.dvg_items.specs.Iterating.{most_left}
use Rattle.dvg_account.proofs.remarks.ShapeWalk.over.Given as goal

abbrev pub decreases-loop-next : goal.decreases-loop-next
decreases-loop-next g l = most_left l.items.here
