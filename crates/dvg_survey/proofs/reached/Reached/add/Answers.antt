use Rattle.dvg_survey.proofs.Common.{is_some, entry_at, entries_of, arith, name_of}
use Rattle.dvg_survey.proofs.reached.Reached.add.Goals as goal

pub returns-in_ok-push : goal.returns-in_ok-push
returns-in_ok-push c = grind (arith, (c.self.invariant (name_of c.args.link.call.entry) c.requires.key), entry_at, entries_of, is_some)

pub returns-else-not-has : goal.returns-else-not-has
returns-else-not-has c = grind (arith, (c.self.invariant (name_of c.args.link.call.entry) c.requires.key), entry_at, entries_of, is_some)
