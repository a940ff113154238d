use Rattle.dvg_check.proofs.Common.{◌+◌, ap, arith, length}
use Rattle.dvg_check.proofs.Listed.{faulty_found, good_more, no_entry}
use Rattle.dvg_check.proofs.shapes.judge_shapes.Goals as goal

pub returns-in-Err-clause-err : goal.returns-in-Err-clause-err
returns-in-Err-clause-err g c =
    faulty_found c.args.mode c.args.window.now c.args.rom.now c.args.cert.now.entries c.entries-list.result.now
    (g.E.Entries.list c.args.entries.now) c.entries.index no_entry c.in-Err.finding c.entries-list.ensures.value c.requires
    c.entries-test.true c.entries.invariant.good c.in-Err.ensures.err c.in-Err.ensures.place.0 c.in-Err.ensures.place.1
    c.in-Err.ensures.entry

pub entries-preserved : goal.entries-preserved
entries-preserved g c =
    record {
      few = omega (arith, c.entries-test.true, ap length c.entries-list.ensures.value);
      good = good_more c.args.mode c.args.window.now c.args.rom.now c.args.cert.now.entries c.entries-list.result.now
          (g.E.Entries.list c.args.entries.now) c.entries.index (c.entries.index + 1) no_entry c.entries-list.ensures.value c.requires
          (omega arith) c.entries-test.true c.entries.invariant.good c.in_default.ensures.ok;
    }
