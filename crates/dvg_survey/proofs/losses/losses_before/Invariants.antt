use Rattle.dvg_survey.proofs.Common.{context_of, Comes}
use Rattle.dvg_survey.proofs.Walking.{Loses}
use Rattle.dvg_survey.proofs.losses.losses_before.Given as goal

abbrev pub invariant-loop-seen : goal.invariant-loop-seen
invariant-loop-seen g l =
    let c = context_of (g.F.Fetch.words l.fn.memory).machine (g.E.Entries.list l.fn.entries) l.walk in
    (goal.iterator-loop-seen g).can_next l.seen-iterator × (goal.iterator-loop-seen g).is_finite l.seen-iterator
    × Comes c (Loses c l.at l.losses l.scale) l.yielded
