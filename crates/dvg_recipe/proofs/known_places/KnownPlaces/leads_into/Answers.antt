use Rattle.dvg_recipe.proofs.Common.{◌≡◌, subst, take, reverse, get_or, rules}
use Rattle.dvg_check.proofs.Common.{Known}
use Rattle.dvg_recipe.specs.Members.{IsEndIn, ComesTo}
use Rattle.dvg_recipe.specs.Private.KnownPlaces.{ItemsOver}
use Rattle.dvg_recipe.proofs.Knowing.{known_once}
use Rattle.dvg_recipe.proofs.known_places.KnownPlaces.leads_into.Goals as goal

pub returns-in-Some : goal.returns-in-Some
returns-in-Some c =
    let known = c.in-Some.known.now in
    let same : get_or c.self.inside.known.items c.args.index known ≡ known = search rules in
    let here : ComesTo c.args.self.now.rom (reverse (take c.args.index c.args.self.now.items)) known =
    subst (λ (o : ItemsOver). ComesTo o.rom (reverse (take c.args.index o.items)) known) c.self.view_is
    (subst (λ (k : Known). ComesTo c.self.inside.rom.now (reverse (take c.args.index c.self.inside.items.now)) k) same
    (c.self.invariant.each c.args.index known (search rules))) in (
      λ t. (known, here, c.is_end_in.ensures.0 t),
      λ h. c.is_end_in.ensures.1 (subst (λ (k : Known). IsEndIn c.args.to.now k.place)
          (known_once c.args.self.now.rom _ h.0 known h.1 here) h.2),
    )
