use Rattle.dvg_recipe.proofs.Common.{◌<◌, ◌+◌, refl, arith}
use Rattle.dvg_words.specs.declared.map.TheConstants.{ADDRESS_END}
use Rattle.dvg_recipe.proofs.Fitting.{each_next, each_of_all, not_each, never}
use Rattle.dvg_recipe.proofs.limits.are_addresses.Goals as goal

pub returns-then-to-ge-ADDRESS_END : goal.returns-then-to-ge-ADDRESS_END
returns-then-to-ge-ADDRESS_END c =
    never _ (λ h. not_each (λ to. to < ADDRESS_END) c.args.targets.now c.loop-to.to-index 0 c.loop-to-test.true
    (λ lt. omega (arith, lt, c.if-to-ge-ADDRESS_END.true)) h.each)

pub loop-to-preserved : goal.loop-to-preserved
loop-to-preserved c =
    record {
      each = each_next (λ to. to < ADDRESS_END) c.args.targets.now c.loop-to.to-index (c.loop-to.to-index + 1) 0 (omega arith)
          c.loop-to-test.true c.loop-to.invariant.each (omega (arith, c.if-to-ge-ADDRESS_END.false));
    }

pub returns : goal.returns
returns c = (
  λ yes. record {
    each =
        each_of_all (λ to. to < ADDRESS_END) c.args.targets.now c.loop-to.to-index c.loop-to-test.false c.loop-to.invariant.each;
  },
  λ h. refl,
)
