use Rattle.dvg_survey.proofs.Common.{frame_context, frame_word}
use Rattle.dvg_survey.proofs.Coming.{calls_own}
use Rattle.dvg_survey.proofs.Complete.{called_claims}
use Rattle.dvg_survey.proofs.chains.reached_by_frame.Goals as goal

pub add_all-requires : goal.add_all-requires
add_all-requires g c =
    let is = rw c.new-framed.ensures at c.in_ok-survey.ensures in
    let k = frame_context c.args.machine (g.E.Entries.list c.args.entries.now) in
    let word = frame_word c.args.machine c.args.frame.now in
    rw c.deref.ensures.value (called_claims k word 0 c.in_ok-survey.survey.calls.items c.requires
    (calls_own k word 0 c.in_ok-survey.survey.calls.items (is.0, is.1, is.2.are_calls)))

pub returns : goal.returns
returns g c =
    let is = rw c.new-framed.ensures at c.in_ok-survey.ensures in (
      c.in_ok-survey.survey.calls.items,
      (is.0, is.1, is.2.are_calls),
      rw (c.in_ok-reached.ensures, c.deref.ensures.value) at c.in_ok-add_all.ensures,
    )
