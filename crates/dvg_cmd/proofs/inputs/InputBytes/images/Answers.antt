use Rattle.dvg_cmd.proofs.Common.{subst, words_of, of_each, FramesFaultMeans, arith, RefusesLengths}
use Rattle.dvg_cmd.proofs.Whole.{wrong_length}
use Rattle.dvg_cmd.proofs.FramesRuns.{told_err, images_read, lengths_refused}
use Rattle.dvg_cmd.proofs.inputs.InputBytes.images.Goals as goal

pub returns-in_err-rom-clause-refused : goal.returns-in_err-rom-clause-refused
returns-in_err-rom-clause-refused c =
    λ held readers read roots. grind (
      arith,
      told_err,
      (wrong_length c.args.map c.in_err-rom.ensures.map held c.args.self.now.rom.items read.rom_prefix c.args.machine
          roots c.in_err-rom.ensures.image.0),
    )

pub returns-in_err-frames-clause-refused : goal.returns-in_err-frames-clause-refused
returns-in_err-frames-clause-refused c =
    λ held readers read roots. told_err c.from_residual-in_err-frames.result _
    (FramesFaultMeans c.args.machine held c.args.map roots readers) c.from_residual-in_err-frames.ensures.1
    (lengths_refused read c.args.machine c.args.map c.in_ok-rom.ensures.map c.in_ok-rom.rom c.in_ok-rom.ensures.image roots
    c.in_err-frames.field-0.0 (subst (λ bs. RefusesLengths (of_each (λ bytes. bytes.items) bs) c.in_err-frames.field-0.0)
    c.deref.ensures.value c.in_err-frames.ensures.refused))

pub returns-clause-images : goal.returns-clause-images
returns-clause-images c = grind (arith, images_read, of_each, words_of)
