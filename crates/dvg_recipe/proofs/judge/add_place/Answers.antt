use Rattle.dvg_recipe.proofs.Common.{subst, sym}
use Rattle.dvg_recipe.specs.Private.Hulls.{Rectangle, IsNearRectangle}
use Rattle.dvg_recipe.proofs.Doing.{places_near}
use Rattle.dvg_recipe.proofs.judge.add_place.Goals as goal

pub add_act-requires : goal.add_act-requires
add_act-requires g c = record {
  fits = (
    subst (λ (r : Rectangle). IsNearRectangle 1 r) (sym c.places_of-places.ensures) (places_near c.args.range.now c.requires.fits),
    c.requires.scale,
  );
}
