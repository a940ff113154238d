use Rattle.dvg_make.proofs.Common.{◌+◌, arith, At, Rel, Empty, Entry, Exact, pos, Contains-get_or, List, subst, Contains, slice_index_or}
use Rattle.dvg_check.proofs.Listed.{faulty_found, good_more}
use Rattle.dvg_make.proofs.judging.find_made_fault.Goals as goal

-- what stands for an entry past the end
abbrev none : Entry
none = record { addr = 0; key = At 0; stop = Rel (pos 0) (pos 0); lit = Empty; depth = 0; words = 0; scale = At 0 }

pub find_made_entry_fault-requires-clause-made : goal.find_made_entry_fault-requires-clause-made
find_made_entry_fault-requires-clause-made c =
    let listed =
    subst (λ (l : List Entry). Contains l (slice_index_or c.entries-list.result.now c.entries.index none))
    c.entries-list.ensures.value (Contains-get_or c.entries-list.result.now c.entries.index none c.entries-test.true) in
    rw c.requires.made.entries (c.requires.made.list.each _ listed)

pub returns-in-Err-clause-err : goal.returns-in-Err-clause-err
returns-in-Err-clause-err c =
    grind (
      arith,
      (faulty_found Exact c.args.window.now c.args.rom.now c.args.made.now.cert.entries c.entries-list.result.now
          c.args.made.now.entries c.entries.index none c.in-Err.finding c.entries-list.ensures.value c.requires.made.entries
          c.entries-test.true c.entries.invariant.good c.in-Err.ensures.err c.in-Err.ensures.place.0 c.in-Err.ensures.place.1
          c.in-Err.ensures.entry),
    )

pub entries-preserved : goal.entries-preserved
entries-preserved c =
    grind (
      arith,
      (good_more Exact c.args.window.now c.args.rom.now c.args.made.now.cert.entries c.entries-list.result.now
          c.args.made.now.entries c.entries.index (c.entries.index + 1) none c.entries-list.ensures.value c.requires.made.entries (omega arith)
          c.entries-test.true c.entries.invariant.good c.in_default.ensures.ok),
    )
