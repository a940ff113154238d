use Rattle.dvg_survey.proofs.Common.{◌∙◌}
use Rattle.dvg_survey.proofs.Touching.{next_none, next_one}
use Rattle.dvg_survey.proofs.touched.touched_entries.Goals as goal
use Rattle.dvg_survey.proofs.touched.touched_entries.Goals.{in-Some+in_ok-push, in_default}

pub loop-entry-preserved : goal.loop-entry-preserved
loop-entry-preserved c =
    elim c.match-first_differing.branch [
      | in-Some+in_ok-push w ↦
          next_one c.args.rom.now c.args.other.now c.args.entries.now c.loop-entry.entry-index _ c.loop-entry-test.true
          c.loop-entry.touched.items c.loop-entry.invariant
          w.in-Some.word w.in-Some.ensures.some c.match-first_differing.touched.items
          ((λ i. (w.touched-is i).items) ∙ w.in_ok-push.ensures.items)
      | in_default w ↦
          next_none c.args.rom.now c.args.other.now c.args.entries.now c.loop-entry.entry-index _ c.loop-entry-test.true
          c.loop-entry.touched.items c.loop-entry.invariant
          w.in_default.ensures.none c.match-first_differing.touched.items (λ i. (w.touched-is i).items)
    ]
