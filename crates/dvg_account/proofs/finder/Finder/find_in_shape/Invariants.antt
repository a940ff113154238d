use Rattle.dvg_items.specs.Iterating.{most_left}
use Rattle.dvg_account.proofs.finder.Finder.find_in_shape.Given as goal

abbrev pub decreases-loop-next : goal.decreases-loop-next
decreases-loop-next l = most_left l.items.here
