use Rattle.dvg_make.proofs.Common.{arith, subst, take_all, AllFramed}
use Rattle.dvg_make.proofs.Turns.{if_err_same}
use Rattle.dvg_make.proofs.Collecting.{framed_next, call_refused}
use Rattle.dvg_make.proofs.maker.make_all.Goals as goal

pub make_roots-requires-clause-right : goal.make_roots-requires-clause-right
make_roots-requires-clause-right c = c.new-making.ensures.right c.args.rom.now c.requires.map

pub returns-in_err-make_frame-clause-err : goal.returns-in_err-make_frame-clause-err
returns-in_err-make_frame-clause-err c =
    grind (arith, if_err_same, (call_refused c.args.rom.now c.args.roots.now c.args.frames.now c.loop-index.index))

pub loop-index-preserved : goal.loop-index-preserved
loop-index-preserved c = grind (arith, framed_next)

pub returns-clause-ok : goal.returns-clause-ok
returns-clause-ok c =
    subst (λ f. AllFramed c.args.rom.now c.args.roots.now f c.loop-index.making.done)
    (take_all c.loop-index.index c.args.frames.now c.loop-index-test.false) c.loop-index.invariant.framed
