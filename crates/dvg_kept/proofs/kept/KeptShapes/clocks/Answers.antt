use Rattle.std.proofs.Common.{sym, subst, ◌∙◌}
use Rattle.dvg_check.specs.declared.fault.Mode.TheVariants.{Exact}
use Rattle.dvg_clocks.specs.Sums.{AreGood}
use Rattle.dvg_kept.proofs.kept.KeptShapes.clocks.Goals as goal

pub of_all-requires-clause-good : goal.of_all-requires-clause-good
of_all-requires-clause-good c =
    subst (AreGood c.self.inside.rom) (sym (c.deref.ensures.value ∙ c.in_ok-list.ensures))
    (record { mode = Exact; window = c.self.inside.window; good = c.self.invariant.0.good })
