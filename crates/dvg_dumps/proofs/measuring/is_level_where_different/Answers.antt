use Rattle.std.proofs.Common.{arith, sym, ◌∙◌}
use Rattle.std.proofs.lemmas.Grind.{common_steps}
use Rattle.dvg_dumps.proofs.Below.{one_false, one_more}
use Rattle.dvg_dumps.specs.Front.{front, level_if_different}
use Rattle.dvg_dumps.proofs.measuring.is_level_where_different.Goals as goal

pub returns-then-not-level_if_different : goal.returns-then-not-level_if_different
returns-then-not-level_if_different c =
    grind (
      arith,
      common_steps,
      (one_false (level_if_different c.args.good.now c.args.other.now c.args.line c.args.level)
          (front c.args.good.now c.args.other.now) c.loop-at.at),
    )

pub loop-at-preserved : goal.loop-at-preserved
loop-at-preserved c =
    one_more (level_if_different c.args.good.now c.args.other.now c.args.line c.args.level) c.loop-at.at c.loop-at.invariant
    (sym c.level_if_different.ensures ∙ c.if-not-level_if_different.false)
