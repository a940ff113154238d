use Rattle.dvg_cmd.proofs.Common.{◌≡◌, ◌∙◌, rules}
use Rattle.std.specs.Iterator.{Drains}
use Rattle.std.proofs.iter.Next.{Yields-more}
use Rattle.dvg_cmd.proofs.LineByLine.{on_err}
use Rattle.dvg_cmd.proofs.ToldLines.{no_lines, more_lines, cut_lines, with_summary, cut_summary, line_alike, cut_alike}
use Rattle.dvg_cmd.proofs.telling.run_each.Goals as goal

pub returns-in_err-tell-clause-prefix : goal.returns-in_err-tell-clause-prefix
returns-in_err-tell-clause-prefix g c =
    let same : c.into_iter-thing-iterator.result ≡ c.args.things = cc in
    on_err c.from_residual.result (
      _,
      c.next.new.self,
      rw same at (Yields-more g.I.Iterator.next_gives c.into_iter-thing-iterator.result c.loop-thing.yielded c.loop-thing.thing-iterator
          c.in-Some.thing c.next.new.self c.loop-thing.yielded_by c.in-Some.ensures.steps),
      cut_lines _ _ c.loop-thing.yielded c.in-Some.thing _ _ _ _ _ _ c.loop-thing.invariant.lines
          (cut_alike _ _ _ _ c.loop-thing.invariant.telling c.loop-thing.invariant.alike c.in-Some.thing _ _ _ c.in_err-tell.ensures.prefix),
    )

pub loop-thing-init : goal.loop-thing-init
loop-thing-init g c =
    search (
      rules,
      no_lines (g.T.Tell.is_line_of c.args.teller.now) (g.T.Tell.telling c.args.teller.now) (g.W.Write.contents c.args.out.now) c.args.begun
          (g.W.CountedWrite.whole_writes c.args.out.now) c.requires.begun,
    )

pub loop-thing-preserved : goal.loop-thing-preserved
loop-thing-preserved g c =
    search (
      rules,
      more_lines _ _ c.loop-thing.yielded c.in-Some.thing _ _ _ _ _ _ c.loop-thing.invariant.lines _ _
          (line_alike _ _ _ _ c.loop-thing.invariant.telling c.loop-thing.invariant.alike c.in-Some.thing _ _ _ _ _ _ c.in_ok-tell.ensures.ok),
      c.in_ok-tell.ensures.telling ∙ c.loop-thing.invariant.telling,
    )

pub returns-in_err-write_summary-clause-prefix : goal.returns-in_err-write_summary-clause-prefix
returns-in_err-write_summary-clause-prefix g c =
    let all : Drains g.I.Iterator.next_gives c.args.things c.loop-thing.yielded = search rules in
    let cut = cut_summary _ _ _ _ _ _ _ _ _ c.loop-thing.invariant.lines _ c.requires.last c.in_err-write_summary.ensures.prefix in
    on_err c.from_residual-in_err-write_summary.result (c.loop-thing.yielded, all.1.0, all.1.1, cut)

pub returns-clause-report : goal.returns-clause-report
returns-clause-report g c =
    let all : Drains g.I.Iterator.next_gives c.args.things c.loop-thing.yielded = search rules in (
      c.loop-thing.yielded,
      all,
      with_summary _ _ _ _ _ _ _ _ _ c.loop-thing.invariant.lines _ c.requires.last _ c.in_ok-write_summary.ensures.sent,
    )
