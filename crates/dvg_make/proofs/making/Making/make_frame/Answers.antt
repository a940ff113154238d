use Rattle.dvg_make.proofs.Common.{sym, arith, ◌∙◌}
use Rattle.dvg_make.proofs.Framing.{starts, called, goes_on, at_last, at_nothing, target_blocked}
use Rattle.dvg_make.proofs.making.Making.make_frame.Goals as goal

pub loop-format-init : goal.loop-format-init
loop-format-init c =
    record { right = c.requires.right; partial = starts c.args.rom.now c.args.frame.now c.args.self.now.done c.requires.right.done }

pub returns-in-Err-clause-err : goal.returns-in-Err-clause-err
returns-in-Err-clause-err c =
    grind (
      arith,
      (target_blocked c.args.rom.now c.args.frame.now c.args.self.now.done c.loop-format.self.done c.loop-format.at
          c.loop-format.scale c.loop-format.invariant.partial c.in-Holds.format c.in-Holds.instr (sym c.in-Holds.ensures.value)
          c.in-Err.blocked c.in-Err.ensures.err c.args.index),
    )

pub loop-format-preserved : goal.loop-format-preserved
loop-format-preserved c = grind (arith, goes_on)

pub returns-in-None-clause-grows : goal.returns-in-None-clause-grows
returns-in-None-clause-grows c =
    grind (
      arith,
      (called c.args.rom.now c.args.frame.now c.args.self.now.done c.loop-format.self.done c.loop-format.at
          c.loop-format.scale c.loop-format.invariant.partial c.in-Holds.format c.in-Holds.instr (sym c.in-Holds.ensures.value)
          c.make_call.new.self.done c.in-Ok.callee c.in-Ok.ensures.ok).partial.grows,
    )

pub returns-in-None-clause-ok : goal.returns-in-None-clause-ok
returns-in-None-clause-ok c =
    grind (
      arith,
      (at_last c.args.rom.now c.args.frame.now c.args.self.now.done c.loop-format.self.done c.loop-format.at
          c.loop-format.scale c.loop-format.invariant.partial c.in-Holds.format c.in-Holds.instr (sym c.in-Holds.ensures.value)
          c.make_call.new.self.done c.in-Ok.callee c.in-Ok.ensures.ok
          (sym c.in-None.ensures)),
    )

pub returns : goal.returns
returns c = search (at_nothing c.args.rom.now c.args.frame.now c.args.self.now.done c.loop-format.self.done c.loop-format.at
    c.loop-format.scale c.loop-format.invariant.partial (λ format i e. c.in_default.not-Holds _ _ (c.frame_cell.ensures.value ∙ e)))
