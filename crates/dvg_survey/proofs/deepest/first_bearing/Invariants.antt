use Rattle.dvg_survey.proofs.Common.{shape_context, Comes}
use Rattle.dvg_survey.proofs.Bearing.{NoneBears}
use Rattle.dvg_survey.proofs.deepest.first_bearing.Given as goal

abbrev pub invariant-loop-seen : goal.invariant-loop-seen
invariant-loop-seen g l =
    let list = g.E.Entries.list l.entries in
    (goal.iterator-loop-seen g).can_next l.seen-iterator × (goal.iterator-loop-seen g).is_finite l.seen-iterator
    × Comes (shape_context l.fn.rom.machine list l.entry) (NoneBears l.fn.rom list l.entry) l.yielded
