use Rattle.dvg_survey.proofs.Common.{◌≡◌, IsSoundStep, IsKey, ap, arith, sym, subst, rules, refl, frame_word, frame_context, comes_first, all_given}
use Rattle.dvg_survey.proofs.Walking.{survey_on}
use Rattle.dvg_survey.proofs.frame_survey.survey_items.Goals as goal

pub loop-seen-init : goal.loop-seen-init
loop-seen-init g c =
    let same : c.into_iter-seen-iterator.result ≡ c.new-seen-items.result = cc in (
      subst (λ s. IsSoundStep s.here) (sym same) (c.new-seen-items.ensures.sound (omega (arith, ap (λ w. w.first) c.frame.ensures))
          (subst IsKey (sym (ap (λ w. w.scale) c.frame.ensures)) tt)),
      tt,
      search (rules, comes_first, c.empty-survey.ensures (frame_context c.args.frame.now.machine (g.E.Entries.list c.args.entries.now))),
    )

pub loop-seen-preserved : goal.loop-seen-preserved
loop-seen-preserved g c =
    search (
      rules,
      survey_on (frame_context c.args.frame.now.machine (g.E.Entries.list c.args.entries.now)) _ _ _ _ _ c.loop-seen.invariant.2
          c.in_ok-add.ensures,
    )

pub returns : goal.returns
returns g c =
    let all = all_given (frame_context c.args.frame.now.machine (g.E.Entries.list c.args.entries.now))
    (frame_word c.args.frame.now.machine c.args.frame.now.frame) 0 _ _ refl (search rules) _ _ c.loop-seen.invariant.2
    (c.next.new.self, (c.loop-seen.seen-iterator, c.loop-seen.yielded_by, search rules)) in
    (all.0, all.1, all.2.0)
