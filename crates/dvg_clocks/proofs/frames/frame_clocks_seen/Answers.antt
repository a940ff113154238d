use Rattle.dvg_clocks.proofs.Common.{IsMemory}
use Rattle.dvg_clocks.proofs.Walking.{frame_walkable, are, first_over, on_circuit}
use Rattle.dvg_clocks.proofs.frames.frame_clocks_seen.Goals as goal

pub items_clocks-requires-clause-walkable : goal.items_clocks-requires-clause-walkable
items_clocks-requires-clause-walkable g c =
    rw (c.new-memory.ensures, c.machine.ensures)
    (frame_walkable (record { frame = c.args.frame.now; rom = c.args.rom.now }) (g.E.Entries.list c.args.entries.now)
    c.requires.frame.0 c.requires.frame.1)

pub returns-clause-value : goal.returns-clause-value
returns-clause-value g c words accepted =
    are (record { frame = c.args.frame.now; rom = c.args.rom.now }) (g.E.Entries.list c.args.entries.now) words accepted
    c.args.timing.now.states c.args.shapes.now c.requires.told c.args.timing.now.limit c.items_clocks.result
    (rw (c.new-memory.ensures, c.machine.ensures) at c.items_clocks.ensures.ok)

pub returns-clause-circuit : goal.returns-clause-circuit
returns-clause-circuit g c board =
    let mem : IsMemory (record { frame = c.args.frame.now; rom = c.args.rom.now }) =
    record { frame = c.prove_whole-2.ensures; rom = c.prove_whole.ensures } in
    on_circuit (record { frame = c.args.frame.now; rom = c.args.rom.now }) (g.E.Entries.list c.args.entries.now) c.requires.frame.0
    c.requires.frame.1 c.args.timing.now.states c.args.shapes.now c.requires.told c.args.timing.now.limit mem c.requires.certificate
    c.requires.good c.items_clocks.result (returns-clause-value g c c.requires.frame.0 c.requires.frame.1) board

pub returns-clause-err : goal.returns-clause-err
returns-clause-err g c =
    first_over (record { frame = c.args.frame.now; rom = c.args.rom.now }) (g.E.Entries.list c.args.entries.now) c.requires.frame.0
    c.requires.frame.1 c.args.timing.now.states c.args.shapes.now c.requires.told c.args.timing.now.limit c.items_clocks.result
    (rw (c.new-memory.ensures, c.machine.ensures) at c.items_clocks.ensures.err)
