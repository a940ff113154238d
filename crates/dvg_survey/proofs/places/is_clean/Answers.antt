use Rattle.dvg_survey.proofs.Common.{◌≡◌, IsSoundStep, IsCleanItem, IsKey, ap, arith, sym, subst, rules, refl, rom_word, shape_context, comes_first, next_is, all_given}
use Rattle.dvg_survey.proofs.Sweeping.{clean_on, all_clean}
use Rattle.dvg_survey.proofs.places.is_clean.Goals as goal

pub loop-seen-init : goal.loop-seen-init
loop-seen-init g c =
    let same : c.into_iter-seen-iterator.result ≡ c.new-seen-items.result = cc in (
      subst (λ s. IsSoundStep s.here) (sym same)
          (c.new-seen-items.ensures.sound (omega (arith, ap (λ w. w.first) c.shape.ensures, c.requires.entry.addr))
          (subst IsKey (sym (ap (λ w. w.scale) c.shape.ensures)) c.requires.entry.key)),
      tt,
      search (rules, comes_first),
    )

pub loop-seen-preserved : goal.loop-seen-preserved
loop-seen-preserved g c =
    search (
      rules,
      clean_on c.args.window.now c.args.rom.now (g.E.Entries.list c.args.entries.now) c.args.broken.now c.args.entry.now
          c.loop-seen.yielded c.in-Some.seen c.loop-seen.invariant.2 (c.is_clean_item.ensures.clean c.if-not-is_clean_item.false),
    )

pub returns-then-not-is_clean_item-clause-faulty : goal.returns-then-not-is_clean_item-clause-faulty
returns-then-not-is_clean_item-clause-faulty g c =
    let n = next_is (shape_context c.args.rom.now.machine (g.E.Entries.list c.args.entries.now) c.args.entry.now) (rom_word c.args.rom.now)
    c.args.entry.now.addr _ _ refl (search rules) _ _ c.loop-seen.invariant.2 _ c.next.new.self c.in-Some.seen c.loop-seen.yielded_by
    c.in-Some.ensures.steps in
    λ t. record {
      earlier = n.0;
      item = c.in-Some.seen.item;
      leads = n.1.leads;
      stands = n.1.stands;
      faulty = λ k. c.is_clean_item.ensures.faulty c.if-not-is_clean_item.true
          (subst (IsCleanItem c.args.window.now c.args.broken.now) (sym n.1.seen) k);
    }

pub returns-clause-clean : goal.returns-clause-clean
returns-clause-clean g c =
    λ t. all_clean c.args.window.now c.args.rom.now (g.E.Entries.list c.args.entries.now) c.args.broken.now c.args.entry.now
    (all_given (shape_context c.args.rom.now.machine (g.E.Entries.list c.args.entries.now) c.args.entry.now) (rom_word c.args.rom.now)
    c.args.entry.now.addr _ _ refl (search rules) _ _ c.loop-seen.invariant.2
    (c.next.new.self, (c.loop-seen.seen-iterator, c.loop-seen.yielded_by, search rules)))
