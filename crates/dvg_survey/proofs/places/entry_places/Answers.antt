use Rattle.dvg_survey.proofs.Common.{arith}
use Rattle.dvg_survey.proofs.Sweeping.{places_next}
use Rattle.dvg_survey.proofs.places.entry_places.Goals as goal

pub loop-entry-preserved : goal.loop-entry-preserved
loop-entry-preserved g c =
    grind (
      arith,
      (places_next c.args.window.now c.args.rom.now c.args.cert.now.entries c.entries-list.result.now
          c.entries-list.ensures.value c.in_ok-broken.broken c.in_ok-broken.ensures c.loop-entry.entry-index),
    )
