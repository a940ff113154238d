use Rattle.dvg_make.proofs.Common.{slice_get, arith, values_of, is_some}
use Rattle.dvg_make.proofs.Stacks.{found_own, making_found}
use Rattle.dvg_make.proofs.stack.Stack.position.Goals as goal

pub returns-clause-some : goal.returns-clause-some
returns-clause-some c =
    grind (arith, slice_get, values_of, is_some, (found_own c.args.addr c.args.key c.self.inside.by_key.entries c.self.invariant))

pub returns-clause-none : goal.returns-clause-none
returns-clause-none c = grind (arith, (making_found c.args.addr c.args.key c.self.inside.by_key.entries c.self.invariant))
