use native.Mathlib.Numerals.{unary_clauses}
use Rattle.dvg_cmd.proofs.Common.{sym, ap, ◌∙◌, suc, ◌++◌, ◌∷◌, [], set, subst, arith, of_each}
use Rattle.dvg_cmd.proofs.SeveralFrames.{ReadSoFar, more_read, one_failed, none_failed, of_each_append}
use Rattle.dvg_cmd.proofs.inputs.read_frames.Goals as goal

pub returns-in_default-clause-counts : goal.returns-in_default-clause-counts
returns-in_default-clause-counts g c =
    one_failed (λ frame. g.R.Read.remaining frame) (λ frame. g.R.CountedRead.failures frame) c.loop-frame.frame-index c.args.frames.now
    c.loop-frame.frame-items (of_each (λ bytes. bytes.items) c.loop-frame.read.items) _ c.read_frame.new.reader
    (omega (arith, c.loop-frame-test.true, c.loop-frame.auto.frame-items)) c.loop-frame.invariant c.in_default.ensures.count

pub returns-in_err-push-clause-counts : goal.returns-in_err-push-clause-counts
returns-in_err-push-clause-counts g c =
    grind (
      arith,
      (none_failed (λ frame. g.R.Read.remaining frame) (λ frame. g.R.CountedRead.failures frame) (suc c.loop-frame.frame-index)
          c.args.frames.now (set c.loop-frame.frame-items c.loop-frame.frame-index c.read_frame.new.reader)
          (of_each (λ bytes. bytes.items) c.loop-frame.read.items ++ c.in-Ok.bytes.items ∷ [])
          (more_read (λ frame. g.R.Read.remaining frame) (λ frame. g.R.CountedRead.failures frame) c.loop-frame.frame-index
          c.args.frames.now c.loop-frame.frame-items (of_each (λ bytes. bytes.items) c.loop-frame.read.items) _ c.read_frame.new.reader
          c.in-Ok.bytes.items (omega (arith, c.loop-frame-test.true, c.loop-frame.auto.frame-items)) c.loop-frame.invariant
          c.in-Ok.ensures.read c.in-Ok.ensures.bytes c.in-Ok.ensures.count)),
    )

pub loop-frame-preserved : goal.loop-frame-preserved
loop-frame-preserved g c =
    simp unary_clauses (subst (λ read. ReadSoFar (λ frame. g.R.Read.remaining frame) (λ frame. g.R.CountedRead.failures frame)
    (suc c.loop-frame.frame-index) c.args.frames.now (set c.loop-frame.frame-items c.loop-frame.frame-index c.read_frame.new.reader)
    read)
    (sym (ap (λ l. of_each (λ bytes. bytes.items) l) c.in_ok-push.ensures.items
    ∙ of_each_append (λ bytes. bytes.items) c.loop-frame.read.items (c.in-Ok.bytes ∷ [])))
    (more_read (λ frame. g.R.Read.remaining frame) (λ frame. g.R.CountedRead.failures frame) c.loop-frame.frame-index c.args.frames.now
    c.loop-frame.frame-items (of_each (λ bytes. bytes.items) c.loop-frame.read.items) _ c.read_frame.new.reader
    c.in-Ok.bytes.items (omega (arith, c.loop-frame-test.true, c.loop-frame.auto.frame-items)) c.loop-frame.invariant
    c.in-Ok.ensures.read c.in-Ok.ensures.bytes c.in-Ok.ensures.count))
