use Rattle.std.proofs.lemmas.Result.{IfOk-weaker}
use Rattle.dvg_recipe.proofs.Common.{List, subst}
use Rattle.dvg_cert.specs.declared.entry.Entry.{Entry}
use Rattle.dvg_clocks.specs.Kept.{AreTold, clocks_in}
use Rattle.dvg_recipe.specs.Means.{AllTake}
use Rattle.dvg_recipe.specs.Private.Clocks.{AreListsUnder}
use Rattle.dvg_recipe.proofs.Taking.{all_take}
use Rattle.dvg_recipe.proofs.timed.clocks_by.Goals as goal

pub returns-clause-take : goal.returns-clause-take
returns-clause-take c =
    let t = c.args.timing.now.states in
    let rom = c.args.rom.now in
    let recipe = c.args.recipe.now in
    let list = c.args.cert.now.entries in
    let kept = c.in_ok-shapes.shapes in
    let told : AreTold t rom list kept =
    subst (λ (l : List Entry). AreTold t rom l kept) c.entries-list.ensures.value c.in_ok-shapes.ensures in
    IfOk-weaker c.most_of_lists.result _ (AllTake t rom recipe)
    (λ most there.
    let under : AreListsUnder t list (clocks_in kept) recipe most =
    subst (λ (l : List Entry). AreListsUnder t l (clocks_in kept) recipe most) c.in_ok-entries.ensures there in
    all_take t rom recipe c.requires.good.0 list c.requires.good.1 kept most c.requires.board c.requires.good.2 told under
    c.prove_whole.ensures)
    c.most_of_lists.ensures.lists
