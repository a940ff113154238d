use Rattle.dvg_check.proofs.Common.{entry_of}
use Rattle.dvg_check.proofs.TailLaws.{weaker_claim}
use Rattle.dvg_check.proofs.tails.shows.Goals as goal

pub returns-in-Some : goal.returns-in-Some
returns-in-Some c =
    λ w rom list tails yes.
    weaker_claim c.args.mode w rom list c.args.entry.now (entry_of c.args.entry.now.addr c.args.entry.now.key c.in-Some.tail.now)
    (c.claims_less.ensures yes) ((tails _ c.in-Some.ensures).good c.args.mode)
