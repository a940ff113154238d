use Rattle.dvg_recipe.proofs.Common.{List, subst, Contains}
use Rattle.dvg_clocks.specs.Kept.{clocks_in}
use Rattle.dvg_recipe.specs.Limits.{MOST_LEVELS, MOST_NESTED}
use Rattle.dvg_recipe.specs.Recipes.{Part, Jump, Area, Spells, SpellsJumps}
use Rattle.dvg_recipe.specs.Private.Clocks.{Spend, StartWith}
use Rattle.dvg_recipe.proofs.PastParts.{if_ok_on}
use Rattle.dvg_recipe.proofs.Spending.{end_with}
use Rattle.dvg_recipe.proofs.clocks.past_lists.Goals as goal

pub past_jumps-requires : goal.past_jumps-requires
past_jumps-requires g c = record {
  fits = record {
    each = λ jump there. (
      MOST_LEVELS,
      MOST_NESTED,
      c.jumps.ensures.fits jump (subst (λ (l : List Jump). Contains l jump) c.jumps.ensures.value there),
    );
  };
}

pub returns : goal.returns
returns g c =
    let recipe = c.args.recipe.now in
    let start = c.in_ok-here.here in
    let between = c.in_ok-here-2.here in
    if_ok_on c.past_jumps.result _ _
    (λ ends h. end_with c.args.counting.now.timing.now.states (g.E.Entries.list c.args.counting.now.entries.now)
    (clocks_in c.args.counting.now.shapes.now) recipe start between ends
    (subst (λ (l : List Area). StartWith c.args.counting.now.timing.now.states (g.E.Entries.list c.args.counting.now.entries.now)
    (clocks_in c.args.counting.now.shapes.now) l start) c.lists.ensures c.in_ok-here.ensures)
    (subst (λ (p : Part). Spend c.args.counting.now.timing.now.states (g.E.Entries.list c.args.counting.now.entries.now)
    (clocks_in c.args.counting.now.shapes.now) (Spells p) start between) c.body.ensures.value c.in_ok-here-2.ensures)
    (subst (λ (l : List Jump). Spend c.args.counting.now.timing.now.states (g.E.Entries.list c.args.counting.now.entries.now)
    (clocks_in c.args.counting.now.shapes.now) (SpellsJumps l) between ends) c.jumps.ensures.value h))
    c.past_jumps.ensures
