use Rattle.dvg_recipe.proofs.Common.{subst, sym}
use Rattle.dvg_recipe.specs.Recipes.{Jump}
use Rattle.dvg_recipe.specs.Private.Judging.{IsWithin}
use Rattle.dvg_recipe.proofs.Sounds.{jump_at}
use Rattle.dvg_recipe.proofs.witness.find_in_jumps.Goals as goal

pub find_in_jump-requires : goal.find_in_jump-requires
find_in_jump-requires g c =
    record {
      fits = subst (λ (j : Jump). IsWithin j.body) (sym c.index-jumps-index.is)
          (jump_at c.args.jumps.now c.loop-index.index c.index-jumps-index.result c.requires.fits c.loop-index-test.true);
    }
