use Rattle.std.proofs.Common.{Err, Ok, sym, subst}
use Rattle.dvg_check.specs.declared.fault.Mode.TheVariants.{Exact}
use Rattle.dvg_clocks.specs.Sums.{AreGood}
use Rattle.dvg_clocks.specs.declared.judging.TimedRefusal.TheVariants.{Slow}
use Rattle.dvg_clocks.specs.Judging.{IsTimed}
use Rattle.dvg_kept.specs.Timed.{TimedKept}
use Rattle.dvg_kept.proofs.Timing.{accepted, timed_ok, timed_slow}
use Rattle.dvg_kept.proofs.timed.TimedShapes.over_kept.Goals as goal

pub frame_clocks-clocks-requires-clause-good : goal.frame_clocks-clocks-requires-clause-good
frame_clocks-clocks-requires-clause-good c =
    let kept = c.in_ok-yes.ensures.kept in
    subst (λ r. AreGood r c.entries.result.now) (sym c.rom.ensures)
    (subst (AreGood c.self.inside.kept.rom) (sym c.entries.ensures)
    (record { mode = Exact; window = c.self.inside.kept.window; good = kept.good }))

pub returns-in-Ok : goal.returns-in-Ok
returns-in-Ok c =
    let yes = c.in_ok-yes in
    subst (λ (x : TimedKept). IsTimed c.args.timing.now x.kept.rom c.args.frame.now x.kept.window c.args.budget
    (Ok (record { yes = yes.yes; clocks = c.in-Ok.clocks }))) c.self.view_is
    (timed_ok c.self.inside.kept yes.ensures.kept c.args.timing.now c.args.frame.now c.args.budget c.requires.budget yes.yes
    yes.ensures.judged yes.ensures.own yes.ensures.good c.in-Ok.clocks
    (rw (c.rom.ensures, c.entries.ensures) at c.in-Ok.ensures.value yes.yes.words
    (accepted c.self.inside.kept yes.ensures.kept c.args.timing.now c.args.frame.now c.args.budget c.requires.budget yes.yes
    yes.ensures.judged yes.ensures.own yes.ensures.good))
    c.in-Ok.ensures.within (rw c.rom.ensures at c.in-Ok.ensures.circuit))

pub returns-in-Err : goal.returns-in-Err
returns-in-Err c =
    let yes = c.in_ok-yes in
    subst (λ (x : TimedKept). IsTimed c.args.timing.now x.kept.rom c.args.frame.now x.kept.window c.args.budget (Err (Slow c.in-Err.at)))
    c.self.view_is
    (timed_slow c.self.inside.kept yes.ensures.kept c.args.timing.now c.args.frame.now c.args.budget c.requires.budget yes.yes
    yes.ensures.judged yes.ensures.own yes.ensures.good c.in-Err.at (rw (c.rom.ensures, c.entries.ensures) at c.in-Err.ensures.err))
