use Rattle.dvg_make.proofs.Common.{◌-◌, length, arith}
use Rattle.dvg_make.proofs.Stacks.{set_last, one_less}
use Rattle.dvg_make.proofs.stack.Stack.replace_top.Goals as goal

pub invariant_of-self : goal.invariant_of-self
invariant_of-self c =
    grind (
      arith,
      one_less,
      (set_last c.self.inside.by_key.entries (length c.self.inside.by_key.entries - 1) c.requires.0 c.requires.1
          c.args.partial),
    )

pub returns : goal.returns
returns c = λ rest old e. grind
    (arith, one_less, (set_last c.self.inside.by_key.entries (length c.self.inside.by_key.entries - 1) rest old c.args.partial))
