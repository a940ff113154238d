use Rattle.dvg_recipe.proofs.known_places.KnownPlaces.leads_to.Goals as goal

pub returns-in-Some : goal.returns-in-Some
returns-in-Some c = rw c.in-Some.is c.leads_into.ensures
