use Rattle.dvg_survey.proofs.Common.{shape_context, Comes}
use Rattle.dvg_survey.proofs.Sweeping.{CleanItems}
use Rattle.dvg_survey.proofs.places.is_clean.Given as goal

abbrev pub invariant-loop-seen : goal.invariant-loop-seen
invariant-loop-seen g l =
    let c = shape_context l.fn.rom.machine (g.E.Entries.list l.fn.entries) l.fn.entry in
    (goal.iterator-loop-seen g).can_next l.seen-iterator × (goal.iterator-loop-seen g).is_finite l.seen-iterator
    × Comes c (CleanItems l.window l.broken c) l.yielded
