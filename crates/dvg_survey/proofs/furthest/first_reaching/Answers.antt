use Rattle.dvg_survey.proofs.Common.{◌≡◌, IsSoundStep, IsKey, ap, arith, sym, subst, rules, refl, rom_word, shape_context, comes_first, next_is, all_given}
use Rattle.dvg_survey.proofs.Reaching.{NotSoFar, none_on, not_so}
use Rattle.dvg_survey.proofs.furthest.first_reaching.Goals as goal

pub loop-seen-init : goal.loop-seen-init
loop-seen-init g c =
    let same : c.into_iter-seen-iterator.result ≡ c.new-seen-items.result = cc in (
      subst (λ s. IsSoundStep s.here) (sym same)
          (c.new-seen-items.ensures.sound (omega (arith, ap (λ w. w.first) c.shape.ensures, c.requires.entry.addr))
          (subst IsKey (sym (ap (λ w. w.scale) c.shape.ensures)) c.requires.entry.key)),
      tt,
      comes_first (shape_context c.args.rom.now.machine (g.E.Entries.list c.args.entries.now) c.args.entry.now)
          (NotSoFar c.args.rom.now (g.E.Entries.list c.args.entries.now) c.args.edge c.args.entry.now) (λ r. r),
    )

pub returns-then-reaches-clause-some : goal.returns-then-reaches-clause-some
returns-then-reaches-clause-some g c =
    let n = next_is (shape_context c.args.rom.now.machine (g.E.Entries.list c.args.entries.now) c.args.entry.now) (rom_word c.args.rom.now)
    c.args.entry.now.addr _ _ refl (search rules) _ _ c.loop-seen.invariant.2 _ c.next.new.self c.in-Some.seen c.loop-seen.yielded_by
    c.in-Some.ensures.steps in
    record {
      earlier = n.0;
      leads = n.1.leads;
      stands = n.1.stands;
      seen = n.1.seen;
      reaches = c.reaches.ensures.0 c.if-reaches.true;
      first = n.2;
    }

pub loop-seen-preserved : goal.loop-seen-preserved
loop-seen-preserved g c =
    search (
      rules,
      none_on c.args.rom.now (g.E.Entries.list c.args.entries.now) c.args.edge c.args.entry.now
          c.loop-seen.yielded c.in-Some.seen c.loop-seen.invariant.2 (not_so c.reaches.result c.if-reaches.false c.reaches.ensures),
    )

pub returns-clause-none : goal.returns-clause-none
returns-clause-none g c =
    all_given (shape_context c.args.rom.now.machine (g.E.Entries.list c.args.entries.now) c.args.entry.now) (rom_word c.args.rom.now)
    c.args.entry.now.addr _ _ refl (search rules) _ _ c.loop-seen.invariant.2
    (c.next.new.self, (c.loop-seen.seen-iterator, c.loop-seen.yielded_by, search rules))
