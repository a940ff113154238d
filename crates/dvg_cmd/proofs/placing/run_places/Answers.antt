use Rattle.dvg_cmd.proofs.Common.{make_run_number, of_each, joined, arith, rules}
use Rattle.dvg_cmd.proofs.FramesRuns.{told_err, frames_refused, places_made}
use Rattle.dvg_cmd.proofs.placing.run_places.Goals as goal

pub returns-in_err-bytes-clause-refused : goal.returns-in_err-bytes-clause-refused
returns-in_err-bytes-clause-refused g c = grind (arith, told_err, make_run_number, of_each)

pub returns-in_err-images-clause-refused : goal.returns-in_err-images-clause-refused
returns-in_err-images-clause-refused g c =
    grind (arith, told_err, make_run_number, of_each, (c.in_err-images.ensures.refused _ _ c.in_ok-bytes.ensures.bytes c.args.roots.now))

pub returns-in_err-made-clause-refused : goal.returns-in_err-made-clause-refused
returns-in_err-made-clause-refused g c =
    grind (
      arith,
      (told_err c.from_residual-in_err-made.result),
      make_run_number,
      of_each,
      (frames_refused c.in_ok-images.ensures.images c.in_ok-bytes.ensures.bytes c.deref.ensures.value c.args.roots.now
          c.in_err-made.field-0.0 c.in_err-made.ensures.err c.in_err-made.ensures.told),
    )

pub returns-in_err-write_each-clause-prefix : goal.returns-in_err-write_each-clause-prefix
returns-in_err-write_each-clause-prefix g c =
    grind (
      arith,
      (places_made c.in_ok-images.ensures.images c.in_ok-bytes.ensures.bytes c.deref.ensures.value c.args.roots.now
          c.args.window c.in_ok-made.made.cert.entries c.in_ok-places.places.items c.in_ok-made.ensures.ok.list c.in_ok-places.ensures),
      joined,
      of_each,
    )

pub returns-clause-text : goal.returns-clause-text
returns-clause-text g c =
    grind (
      arith,
      (places_made c.in_ok-images.ensures.images c.in_ok-bytes.ensures.bytes c.deref.ensures.value c.args.roots.now
          c.args.window c.in_ok-made.made.cert.entries c.in_ok-places.places.items c.in_ok-made.ensures.ok.list c.in_ok-places.ensures),
      joined,
      of_each,
    )

pub returns-in_err-write_each-clause-read : goal.returns-in_err-write_each-clause-read
returns-in_err-write_each-clause-read g c =
    record {
      rom_count = search rules;
      frame_counts = search rules;
      rom_read = search rules;
      frames_read = search rules;
      frames_read_too = search rules;
      frames_unread = search rules;
    }
