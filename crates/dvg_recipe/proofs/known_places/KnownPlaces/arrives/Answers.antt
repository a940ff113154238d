use Rattle.dvg_recipe.proofs.known_places.KnownPlaces.arrives.Goals as goal

pub returns-in-Draw : goal.returns-in-Draw
returns-in-Draw c = rw c.in-Draw.is c.leads_to.ensures
