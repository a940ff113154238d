use Rattle.dvg_survey.proofs.Common.{frame_context, Comes}
use Rattle.dvg_survey.proofs.Walking.{Surveys}
use Rattle.dvg_survey.proofs.frame_survey.survey_items.Given as goal

abbrev pub invariant-loop-seen : goal.invariant-loop-seen
invariant-loop-seen g l =
    let c = frame_context l.fn.frame.machine (g.E.Entries.list l.fn.entries) in
    (goal.iterator-loop-seen g).can_next l.seen-iterator × (goal.iterator-loop-seen g).is_finite l.seen-iterator
    × Comes c (Surveys c l.survey l.scale) l.yielded
