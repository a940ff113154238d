use Rattle.dvg_check.proofs.Common.{◌≤◌, ADDRESS_END, AreTails, set_number}
use Rattle.dvg_check.proofs.tails.make_all.Given as goal

abbrev pub invariant-places : goal.invariant-places
invariant-places g l = record { near : l.at ≤ ADDRESS_END; tails : AreTails l.window l.rom (g.E.Entries.list l.entries) l.tails }

abbrev pub decreases-places : goal.decreases-places
decreases-places g l = l.at

abbrev pub invariant-keys : goal.invariant-keys
invariant-keys g l = record { tails : AreTails l.window l.rom (g.E.Entries.list l.entries) l.tails }

abbrev pub decreases-keys : goal.decreases-keys
decreases-keys g l = set_number l.left
