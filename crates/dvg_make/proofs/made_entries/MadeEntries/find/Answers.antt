use Rattle.dvg_make.proofs.Common.{arith, lookup_is, pair_test, pair_eq, keyed_claim}
use Rattle.dvg_make.proofs.made_entries.MadeEntries.find.Goals as goal

pub returns-clause-claim : goal.returns-clause-claim
returns-clause-claim c =
    grind (
      arith,
      (keyed_claim c.self.inside.found.entries c.args.addr c.args.key c.self.invariant),
      (lookup_is (pair_eq (c.args.addr, c.args.key)) c.args.addr c.args.key (pair_test c.args.addr c.args.key) c.self.inside.found.entries c.self.invariant),
    )
