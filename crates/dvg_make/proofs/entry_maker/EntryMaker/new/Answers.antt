use Rattle.dvg_make.proofs.entry_maker.EntryMaker.new.Goals as goal

pub invariant_of-result : goal.invariant_of-result
invariant_of-result c = c.new.ensures.right c.args.rom.now c.prove_whole.ensures.map
