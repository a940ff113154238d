use Rattle.dvg_make.proofs.Common.{sym, subst, BarsEntry}
use Rattle.dvg_make.specs.EntryMaker.{MadeSoFar}
use Rattle.dvg_make.proofs.Framing.{done_made, bars_entry}
use Rattle.dvg_make.proofs.entry_maker.EntryMaker.entry.Goals as goal

pub invariant_of-self : goal.invariant_of-self
invariant_of-self c = c.new.ensures.right c.self.inside.rom.now c.prove_whole.ensures.map

pub returns-in-Err-clause-err : goal.returns-in-Err-clause-err
returns-in-Err-clause-err c =
    let rom = c.self.inside.rom.now in
    let bars = bars_entry rom c.self.inside.making.done c.self.invariant.done c.args.addr c.args.key _ c.in-Err.ensures.err.bars in
    subst (λ (m : MadeSoFar). BarsEntry m.rom c.args.addr c.args.key c.fault.result) c.self.view_is
    (subst (BarsEntry rom c.args.addr c.args.key) (sym c.fault.ensures) bars)

pub returns-clause-made : goal.returns-clause-made
returns-clause-made c = done_made _ _ c.in_default.ensures.right.done
