use Rattle.dvg_cmd.proofs.FramesRuns.{roots_fault}
use Rattle.dvg_words.specs.declared.machine.Machine.TheVariants.{Profile}
use Rattle.dvg_cmd.proofs.making.run_make.Goals as goal

pub returns-clause-refused : goal.returns-clause-refused
returns-clause-refused g c =
    roots_fault Profile (g.R.Read.remaining c.args.rom.now) c.args.map c.args.roots.now c.run_make_frames.result
    c.run_make_frames.ensures.refused _ c.run_make_frames.ensures.read.frame_counts
