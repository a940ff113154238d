use Rattle.dvg_recipe.proofs.Common.{List, subst, sym, Contains, ◌∙◌}
use Rattle.dvg_recipe.specs.Private.Hulls.{Hull}
use Rattle.dvg_recipe.specs.Private.Judging.{IsCounted}
use Rattle.dvg_check.specs.declared.frames.Accepted.{Accepted}
use Rattle.dvg_recipe.specs.Means.{AllMean}
use Rattle.dvg_recipe.proofs.PastParts.{if_ok_on}
use Rattle.dvg_recipe.proofs.Members.{by_runs, every_good, every_known, every_list, every_means, good_frames, of_entries, of_runs}
use Rattle.dvg_recipe.proofs.judge.judge_over.Goals as goal

pub returns-clause-means : goal.returns-clause-means
returns-clause-means g c =
    let w = c.args.asked.now.window in
    let list = g.E.Entries.list c.args.entries.now in
    let budget = c.args.asked.now.budget in
    let recipe = c.args.recipe.now in
    let rom = c.args.rom.now in
    let made = c.requires.made in
    let ends = c.in_ok-ends.ends.items in
    let yes = c.counts.result in
    if_ok_on c.accepted.result _ _
    (λ answer h.
    let members = c.in_ok-ends.ensures.good (sym c.see_end.ensures ∙ h.0) in
    let last : (t : Hull) → Contains ends t → IsCounted yes.words yes.depth t =
    λ t there. c.counts.ensures t (subst (λ (l : List Hull). Contains l t) (sym c.deref-2.ensures.value) there) in
    let good = every_good w list budget recipe yes.words yes.depth ends members.1 last h.2 in
    subst (λ (x : Accepted). AllMean rom recipe w x.words x.depth) (sym h.1)
    (every_means rom list w budget recipe yes.words yes.depth
    (record { rom = c.prove_whole.ensures; list = c.requires.list; good = c.requires.good }) c.prove_for_board.ensures c.requires.board
    (λ frame b. good frame (of_runs rom list w budget recipe c.requires.board c.prove_whole.ensures c.requires.list made c.requires.good frame b))
    (λ frame b.
    let known = of_entries rom list w budget recipe c.requires.board c.prove_whole.ensures c.requires.list made c.requires.good frame b in
    let member = good frame known in
    by_runs rom list w budget recipe c.requires.board c.prove_whole.ensures c.requires.list made c.requires.good frame b member.n member.d
    member.good (every_known w list budget recipe yes.words yes.depth ends members.1 frame known))))
    c.accepted.ensures

pub returns-clause-good : goal.returns-clause-good
returns-clause-good g c =
    let w = c.args.asked.now.window in
    let list = g.E.Entries.list c.args.entries.now in
    let budget = c.args.asked.now.budget in
    let recipe = c.args.recipe.now in
    let rom = c.args.rom.now in
    let ends = c.in_ok-ends.ends.items in
    let yes = c.counts.result in
    if_ok_on c.accepted.result _ _
    (λ answer h.
    let members = c.in_ok-ends.ensures.good (sym c.see_end.ensures ∙ h.0) in
    let last : (t : Hull) → Contains ends t → IsCounted yes.words yes.depth t =
    λ t there. c.counts.ensures t (subst (λ (l : List Hull). Contains l t) (sym c.deref-2.ensures.value) there) in
    good_frames rom list w budget recipe yes.words yes.depth c.requires.list c.requires.made c.requires.good
    (every_list w list budget recipe yes.words yes.depth ends members.1 last h.2))
    c.accepted.ensures
