use Rattle.dvg_survey.proofs.Common.{nat_tests, subst, IsSoundStep, ◌≡◌, ◌∷◌, Some, arith, rules, refl, sym, context_of, next_address, comes_first, next_is, all_given}
use Rattle.dvg_survey.proofs.Walking.{lost_by, losses_on, none_lead}
use Rattle.dvg_survey.proofs.losses.losses_before.Goals as goal

pub loop-seen-init : goal.loop-seen-init
loop-seen-init g c =
    let same : c.into_iter-seen-iterator.result ≡ c.new-seen-items.result = cc in (
      subst (λ s. IsSoundStep s.here) (sym same) (c.new-seen-items.ensures.sound c.requires.first c.requires.scale),
      tt,
      search (rules, comes_first),
    )

pub returns-then-eq-clause-some : goal.returns-then-eq-clause-some
returns-then-eq-clause-some g c =
    let word = g.F.Fetch.words c.args.memory.now in
    let k = context_of word.machine (g.E.Entries.list c.args.entries.now) c.args.walk.now in
    let n = next_is k word c.args.walk.now.first _ _ refl (search rules) _ _ c.loop-seen.invariant.2 _ c.next.new.self c.in-Some.seen
    c.loop-seen.yielded_by c.in-Some.ensures.steps in
    let on : next_address c.args.walk.now.kind c.in-Some.seen.item ≡ Some c.args.at = search rules in
    let lost = lost_by k c.loop-seen.yielded c.in-Some.seen c.args.at c.loop-seen.losses c.past-losses.result c.loop-seen.scale
    c.past-losses.ensures.place c.past-losses.ensures.scale n.0 c.in-Some.seen.item n.1.seen n.2 in
    record { items = c.in-Some.seen.item ∷ n.0; leads = (n.1.leads, n.1.stands, on); place = lost.0; scale = lost.1 }

pub loop-seen-preserved : goal.loop-seen-preserved
loop-seen-preserved g c =
    let k = context_of (g.F.Fetch.words c.args.memory.now).machine (g.E.Entries.list c.args.entries.now) c.args.walk.now in (
      c.in-Some.ensures.goes.keeps,
      tt,
      losses_on k c.loop-seen.yielded c.in-Some.seen c.args.at c.loop-seen.losses c.past-losses.result c.loop-seen.scale
          c.past-losses.ensures.place c.past-losses.ensures.scale c.loop-seen.invariant.2
          (λ on. grind (arith, nat_tests, on, c.next_address.ensures, c.eq.ensures, c.if-eq.false)),
    )

pub returns-clause-none : goal.returns-clause-none
returns-clause-none g c =
    let word = g.F.Fetch.words c.args.memory.now in
    let k = context_of word.machine (g.E.Entries.list c.args.entries.now) c.args.walk.now in
    none_lead k word c.args.walk.now.first c.args.at c.loop-seen.losses c.loop-seen.scale (search rules)
    (all_given k word c.args.walk.now.first _ _ refl (search rules) _ _ c.loop-seen.invariant.2
    (c.next.new.self, (c.loop-seen.seen-iterator, c.loop-seen.yielded_by, search rules)))
