use Rattle.dvg_survey.proofs.Common.{◌+◌, sym, subst, IsNearPlace}
use Rattle.dvg_survey.proofs.OwnExtents.{near_set, set_alike, sound_later}
use Rattle.dvg_survey.proofs.extents.known_past.Goals as goal

pub returns-clause-alike : goal.returns-clause-alike
returns-clause-alike g c known alike =
    set_alike c.args.machine (g.E.Entries.list c.args.entries.now) c.args.item.now known c.args.here.now.known alike c.requires.place
    c.place_set.result
    (rw (c.callee-called.ensures.value, c.target.ensures) at (c.place_set.ensures.place c.args.here.now.known.scale)) (record {
      place = c.unwrap_or.result;
      scale = c.scale_past.result;
      words = c.args.here.now.known.words;
      depth = c.args.here.now.known.depth;
    }) c.unwrap_or.ensures (rw (c.callee-called.ensures.value, c.target.ensures) at c.scale_past.ensures.value)

pub returns-clause-sound : goal.returns-clause-sound
returns-clause-sound g c =
    let here = c.args.here.now in
    let later = sound_later here c.requires.here in
    record {
      place = subst (IsNearPlace (here.at + 1)) (sym c.unwrap_or.ensures)
          (near_set here.at here.known.place c.place_set.result c.place_set.ensures.near c.requires.here.place);
      scale = c.scale_past.ensures.key;
      words = later.words;
      depth = later.depth;
    }
