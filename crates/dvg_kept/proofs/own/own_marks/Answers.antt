use Rattle.std.proofs.Common.{sym, ap, subst, ◌∙◌}
use Rattle.dvg_kept.specs.Private.Marks.{IsMarking, Marks}
use Rattle.dvg_kept.proofs.Closing.{goes_on}
use Rattle.dvg_kept.proofs.Keys.{key_at}
use Rattle.dvg_kept.proofs.own.own_marks.Goals as goal

pub mark_calls-requires-clause-key : goal.mark_calls-requires-clause-key
mark_calls-requires-clause-key c =
    key_at c.args.entries.now c.requires.entries c.in-Some.position c.in_ok-entry.entry (sym c.in_ok-entry.ensures)

pub loop-position-preserved : goal.loop-position-preserved
loop-position-preserved c =
    goes_on c.args.rom.now c.args.frame.now c.args.entries.now c.args.leaves.now c.requires.leaves c.loop-position.marks
    c.take.new.self c.mark_calls.new.self c.loop-position.invariant c.in-Some.position c.in-Some.ensures.some c.in_ok-entry.entry
    (sym c.in_ok-entry.ensures) c.in_ok-mark_calls.ensures.more c.in_ok-mark_calls.ensures.asked

pub returns : goal.returns
returns c =
    record {
      marking = subst (λ (x : Marks). IsMarking c.args.rom.now c.args.frame.now c.args.entries.now x) (sym c.in_default.ensures.none)
          c.loop-position.invariant;
      all = ap (λ (x : Marks). x.waiting) c.in_default.ensures.none ∙ c.in_default.ensures.empty;
    }
