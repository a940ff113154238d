use Rattle.dvg_survey.proofs.Common.{◌≡◌, IsSoundStep, IsKey, ap, arith, sym, subst, rules, refl, rom_word, shape_context, comes_first, IsNext, next_is, all_given, List, Item}
use Rattle.dvg_survey.proofs.Bearing.{NoneBears, first_bears, none_on, none_bears}
use Rattle.dvg_survey.proofs.Walking.{where_none}
use Rattle.dvg_survey.proofs.deepest.first_bearing.Goals.{In-Some}
use Rattle.dvg_survey.proofs.deepest.first_bearing.Goals as goal

pub loop-seen-init : goal.loop-seen-init
loop-seen-init g c =
    let same : c.into_iter-seen-iterator.result ≡ c.new-seen-items.result = cc in (
      subst (λ s. IsSoundStep s.here) (sym same)
          (c.new-seen-items.ensures.sound (omega (arith, ap (λ w. w.first) c.shape.ensures, c.requires.entry.addr))
          (subst IsKey (sym (ap (λ w. w.scale) c.shape.ensures)) c.requires.entry.key)),
      tt,
      search (rules, comes_first),
    )

here : (g : _) (c : In-Some g) → (items : List Item)
    × IsNext (shape_context c.args.rom.now.machine (g.E.Entries.list c.args.entries.now) c.args.entry.now) (rom_word c.args.rom.now)
    c.args.entry.now.addr items c.in-Some.seen
    × NoneBears c.args.rom.now (g.E.Entries.list c.args.entries.now) c.args.entry.now items
here g c =
    next_is (shape_context c.args.rom.now.machine (g.E.Entries.list c.args.entries.now) c.args.entry.now) (rom_word c.args.rom.now)
    c.args.entry.now.addr _ _ refl (search rules) _ _ c.loop-seen.invariant.2 _ c.next.new.self c.in-Some.seen c.loop-seen.yielded_by
    c.in-Some.ensures.steps

pub returns-in-Some-call_under-clause-some : goal.returns-in-Some-call_under-clause-some
returns-in-Some-call_under-clause-some g c =
    let n = here g (goal.at.returns-in-Some-call_under-clause-some g c).In-Some in
    first_bears c.args.rom.now (g.E.Entries.list c.args.entries.now) c.args.entry.now n.0 c.in-Some.seen n.1 n.2
    (omega (arith, c.if-entry-eq0.false))
    c.in-Some-call_under.call c.in-Some-call_under.ensures.some.0 c.in-Some-call_under.ensures.some.1 c.in-Some-call_under.ensures.some.2

pub loop-seen-preserved : goal.loop-seen-preserved
loop-seen-preserved g c =
    search (
      rules,
      none_on c.args.rom.now (g.E.Entries.list c.args.entries.now) c.args.entry.now
          c.loop-seen.yielded c.in-Some.seen c.loop-seen.invariant.2 (here g (goal.at.loop-seen-preserved g c).In-Some).1.stands
          (where_none c.call_under.result c.in_default.not-Some c.call_under.ensures.none),
    )

pub returns-clause-none : goal.returns-clause-none
returns-clause-none g c = none_bears c.args.rom.now (g.E.Entries.list c.args.entries.now) c.args.entry.now
    (all_given (shape_context c.args.rom.now.machine (g.E.Entries.list c.args.entries.now) c.args.entry.now) (rom_word c.args.rom.now)
    c.args.entry.now.addr _ _ refl (search rules) _ _ c.loop-seen.invariant.2
    (c.next.new.self, (c.loop-seen.seen-iterator, c.loop-seen.yielded_by, search rules)))
