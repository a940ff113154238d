use Rattle.dvg_cmd.proofs.Common.{arith, ◌<◌, [], ◌∷◌, length, refl, ap, subst, make_run_number, of_each, ◌↔◌, IsTrue}
use Rattle.dvg_cmd.proofs.Whole.{wrong_length}
use Rattle.dvg_cmd.proofs.FramesRuns.{rom_failed, told_err, frames_refused, compared}
use Rattle.dvg_cmd.proofs.comparing.run_comparison.Goals as goal

pub returns-in_err-rom-clause-rom_counts : goal.returns-in_err-rom-clause-rom_counts
returns-in_err-rom-clause-rom_counts g c =
    rom_failed c.from_residual.result _ c.from_residual.ensures.1 c.in_err-rom.ensures.fault [] []
    (g.R1.CountedRead.failures c.args.other.now ∷ []) refl _ _ c.in_err-rom.ensures.count

pub returns-in_err-other_bytes-clause-rom_counts : goal.returns-in_err-other_bytes-clause-rom_counts
returns-in_err-other_bytes-clause-rom_counts g c =
    rom_failed c.from_residual-in_err-other_bytes.result _ c.from_residual-in_err-other_bytes.ensures.1 c.in_err-other_bytes.ensures.fault
    (g.R1.CountedRead.failures c.args.rom.now ∷ []) (g.R1.CountedRead.failures c.read_maker_rom.new.rom ∷ []) []
    (ap (λ n. n ∷ []) c.in_ok-rom.ensures.count) _ _ c.in_err-other_bytes.ensures.count

pub returns-in_err-other_image-clause-refused : goal.returns-in_err-other_image-clause-refused
returns-in_err-other_image-clause-refused g c =
    grind (
      arith,
      told_err,
      make_run_number,
      of_each,
      (wrong_length c.args.map c.in_err-other_image.ensures.map (g.R1.Read.remaining c.args.other.now)
          c.in_ok-other_bytes.other_bytes.items c.in_ok-other_bytes.ensures.bytes c.args.machine c.args.roots.now
          c.in_err-other_image.ensures.image.0),
    )

pub returns-in_err-images-clause-refused : goal.returns-in_err-images-clause-refused
returns-in_err-images-clause-refused g c =
    grind (
      arith,
      told_err,
      make_run_number,
      of_each,
      (c.in_err-images.ensures.refused _ _
          (record { rom_prefix = c.in_ok-rom.ensures.bytes; frame_prefixes = c.in_ok-frames.ensures.bytes }) c.args.roots.now),
    )

pub returns-in_err-comparison-clause-refused : goal.returns-in_err-comparison-clause-refused
returns-in_err-comparison-clause-refused g c =
    let refused =
    frames_refused c.in_ok-images.ensures.images
    (record { rom_prefix = c.in_ok-rom.ensures.bytes; frame_prefixes = c.in_ok-frames.ensures.bytes }) c.deref.ensures.value
    c.args.roots.now c.in_err-comparison.field-0.0 c.in_err-comparison.ensures.err c.in_err-comparison.ensures.told in
    grind (arith, told_err, make_run_number, of_each, refused)

pub returns-in_err-write_comparison-clause-prefix : goal.returns-in_err-write_comparison-clause-prefix
returns-in_err-write_comparison-clause-prefix g c =
    let is = compared c.in_ok-images.ensures.images
    (record { rom_prefix = c.in_ok-rom.ensures.bytes; frame_prefixes = c.in_ok-frames.ensures.bytes }) c.deref.ensures.value
    c.in_ok-other_image.ensures.map (g.R1.Read.remaining c.args.other.now) c.in_ok-other_image.other_image
    c.in_ok-other_bytes.other_bytes.items c.in_ok-other_bytes.ensures.bytes c.in_ok-other_image.ensures.image c.args.roots.now
    c.in_ok-comparison.comparison c.in_ok-comparison.ensures.ok in
    λ told. search (c.in_err-write_comparison.ensures.prefix, is)

pub returns-clause-text : goal.returns-clause-text
returns-clause-text g c =
    let is = compared c.in_ok-images.ensures.images
    (record { rom_prefix = c.in_ok-rom.ensures.bytes; frame_prefixes = c.in_ok-frames.ensures.bytes }) c.deref.ensures.value
    c.in_ok-other_image.ensures.map (g.R1.Read.remaining c.args.other.now) c.in_ok-other_image.other_image
    c.in_ok-other_bytes.other_bytes.items c.in_ok-other_bytes.ensures.bytes c.in_ok-other_image.ensures.image c.args.roots.now
    c.in_ok-comparison.comparison c.in_ok-comparison.ensures.ok in
    search (
      c.in_ok-write_comparison.ensures.sent,
      subst (λ es. IsTrue c.any_touched.result ↔ (0 < length es)) c.deref-2.ensures.value c.any_touched.ensures,
      is,
    )
