use Rattle.dvg_recipe.proofs.Common.{subst, sym, Contains-get_or}
use Rattle.dvg_recipe.specs.Recipes.{Jump}
use Rattle.dvg_recipe.specs.Private.Judging.{IsWithin}
use Rattle.dvg_recipe.proofs.roots.jumps_past.Goals as goal

pub keys_past-requires : goal.keys_past-requires
keys_past-requires c =
    record {
      fits = subst (λ (j : Jump). IsWithin j.body) (sym c.jump-item.is)
          (c.requires.fits.each _ (Contains-get_or c.args.jumps.now c.loop-jump.jump-index c.jump-item.result c.loop-jump-test.true));
    }
