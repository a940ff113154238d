use Rattle.dvg_recipe.proofs.Common.{List, subst}
use Rattle.dvg_recipe.specs.Recipes.{Jump}
use Rattle.dvg_recipe.specs.Private.Indices.{IsPast, JumpsLead}
use Rattle.dvg_recipe.proofs.PastParts.{part_to, those_of, recipe_those}
use Rattle.dvg_recipe.proofs.belonging.past_recipe.Goals as goal

pub returns : goal.returns
returns c =
    let recipe = c.args.recipe.now in
    let items = c.args.places.now in
    recipe_those recipe items c.in_ok-here.here.items c.past_part.new.here.items c.in_ok-here-2.here.items
    (those_of c.lists.result.now recipe.lists items c.in_ok-here.here.items c.lists.ensures c.in_ok-here.ensures)
    (part_to c.body.result.now recipe.body items c.in_ok-here.here.items c.past_part.new.here.items c.body.ensures.value
    c.in_ok-past_part.ensures)
    (subst (λ (l : List Jump). IsPast (JumpsLead l items) c.past_part.new.here.items c.in_ok-here-2.here.items) c.jumps.ensures.value
    c.in_ok-here-2.ensures)
