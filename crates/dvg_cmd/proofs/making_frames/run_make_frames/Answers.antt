use Rattle.dvg_cmd.proofs.Common.{of_each, arith}
use Rattle.dvg_cmd.proofs.FramesRuns.{told_err, own_map, frames_made, frames_refused, writes_prefix, writes}
use Rattle.dvg_cmd.proofs.making_frames.run_make_frames.Goals as goal

pub returns-in_err-bytes-clause-refused : goal.returns-in_err-bytes-clause-refused
returns-in_err-bytes-clause-refused g c =
    grind (arith, told_err, of_each, (c.in_err-bytes.ensures.refused c.args.machine c.args.map c.args.roots.now))

pub returns-in_err-images-clause-refused : goal.returns-in_err-images-clause-refused
returns-in_err-images-clause-refused g c =
    grind (arith, told_err, of_each, (c.in_err-images.ensures.refused _ _ c.in_ok-bytes.ensures.bytes c.args.roots.now))

pub returns-in_err-cert-clause-refused : goal.returns-in_err-cert-clause-refused
returns-in_err-cert-clause-refused g c =
    grind (
      arith,
      (told_err c.from_residual-in_err-cert.result),
      of_each,
      (frames_refused c.in_ok-images.ensures.images c.in_ok-bytes.ensures.bytes c.deref.ensures.value c.args.roots.now
          c.in_err-cert.field-0.0 c.in_err-cert.ensures.err c.in_err-cert.ensures.told),
    )

pub returns-in_err-write_cert-clause-prefix : goal.returns-in_err-write_cert-clause-prefix
returns-in_err-write_cert-clause-prefix g c =
    grind (
      arith,
      writes_prefix,
      of_each,
      (frames_made c.in_ok-images.ensures.images c.in_ok-bytes.ensures.bytes c.deref.ensures.value c.args.roots.now
          c.in_ok-cert.cert.entries c.in_ok-cert.ensures.ok),
      (own_map c.in_ok-images.ensures.images c.in_ok-bytes.ensures.bytes c.deref.ensures.value),
    )

pub returns-clause-text : goal.returns-clause-text
returns-clause-text g c =
    grind (
      arith,
      writes,
      of_each,
      (frames_made c.in_ok-images.ensures.images c.in_ok-bytes.ensures.bytes c.deref.ensures.value c.args.roots.now
          c.in_ok-cert.cert.entries c.in_ok-cert.ensures.ok),
      (own_map c.in_ok-images.ensures.images c.in_ok-bytes.ensures.bytes c.deref.ensures.value),
    )
