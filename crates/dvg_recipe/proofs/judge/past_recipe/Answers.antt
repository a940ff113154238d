use Rattle.dvg_recipe.proofs.Common.{List, subst, Contains}
use Rattle.dvg_recipe.specs.Limits.{MOST_LEVELS, MOST_NESTED}
use Rattle.dvg_recipe.specs.Recipes.{Part, Jump, Area, Spells, SpellsJumps}
use Rattle.dvg_recipe.specs.Private.Judging.{Carries, AreListStarts}
use Rattle.dvg_recipe.proofs.PastParts.{if_ok_on}
use Rattle.dvg_recipe.proofs.Onward.{from_as}
use Rattle.dvg_recipe.proofs.Members.{every_front}
use Rattle.dvg_recipe.proofs.judge.past_recipe.Goals as goal

pub past_jumps-requires : goal.past_jumps-requires
past_jumps-requires g c = record {
  fits = record {
    each = λ jump there. (
      MOST_LEVELS,
      MOST_NESTED,
      c.jumps.ensures.fits jump (subst (λ (l : List Jump). Contains l jump) c.jumps.ensures.value there),
    );
  };
}

pub returns : goal.returns
returns g c =
    let w = c.args.asked.now.window in
    let list = g.E.Entries.list c.args.entries.now in
    let budget = c.args.asked.now.budget in
    let recipe = c.args.recipe.now in
    let start = c.in_ok-here.here.items in
    let between = c.in_ok-here-2.here.items in
    record {
      good = if_ok_on c.past_jumps.result _ _
          (λ ends h fine.
          let j = h fine in
          let b = c.in_ok-here-2.ensures.carries j.0 in
          let s = c.in_ok-here.ensures.starts b.0 in
          let lists : AreListStarts w list budget recipe.lists start =
          subst (λ (l : List Area). AreListStarts w list budget l start) c.lists.ensures (s.1 list) in
          let body : Carries w list budget (Spells recipe.body) start between =
          subst (λ (p : Part). Carries w list budget (Spells p) start between) c.body.ensures.value
          (from_as w list budget _ _ start between c.deref.ensures.value b.1) in
          let jumps : Carries w list budget (SpellsJumps recipe.jumps) between ends.items =
          subst (λ (l : List Jump). Carries w list budget (SpellsJumps l) between ends.items) c.jumps.ensures.value j.1 in
          (s.0, every_front w list budget recipe start between ends.items lists body jumps))
          c.past_jumps.ensures.carries;
    }
