use Rattle.dvg_make.proofs.Common.{◌+◌, ℕ, List, arith, rules, IsRefused}
use Rattle.dvg_make.proofs.Turns.{if_err_same}
use Rattle.dvg_make.proofs.Collecting.{root_collected, root_refused, outside_refused}
use Rattle.dvg_make.proofs.making.Making.make_roots.Goals as goal

pub returns-then-not-can_be_root-clause-err : goal.returns-then-not-can_be_root-clause-err
returns-then-not-can_be_root-clause-err c =
    outside_refused c.args.rom.now c.args.roots.now c.loop-addr.addr-index _ c.loop-addr.self.done c.loop-addr-test.true
    c.loop-addr.invariant.collected c.can_be_root.result (search rules) c.can_be_root.ensures c.new-chain.result c.new-chain.ensures
    c.obstacle-obstacle.result (rw c.start.ensures at c.obstacle-obstacle.ensures)

pub returns-in_err-need-clause-err : goal.returns-in_err-need-clause-err
returns-in_err-need-clause-err c =
    if_err_same c.from_residual.result c.in_err-need.field-0.0
    (λ blocked. (frames : List (List ℕ)) → IsRefused c.args.rom.now c.args.roots.now frames blocked) c.from_residual.ensures.1
    (root_refused c.args.rom.now c.args.roots.now c.loop-addr.addr-index _ c.loop-addr.self.done c.loop-addr-test.true
    c.loop-addr.invariant.collected c.in_err-need.field-0.0 c.in_err-need.ensures.err)

pub loop-addr-preserved : goal.loop-addr-preserved
loop-addr-preserved c =
    search (
      rules,
      root_collected c.args.rom.now c.args.roots.now c.loop-addr.addr-index (c.loop-addr.addr-index + 1) _
          c.loop-addr.self.done c.need.new.self.done (omega arith) c.loop-addr-test.true c.loop-addr.invariant.collected
          c.in_ok-need.ensures.ok c.in_ok-need.ensures.has,
    )
