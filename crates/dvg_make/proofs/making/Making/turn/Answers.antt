use Rattle.dvg_make.proofs.Common.{◌∙◌, sym, obstacle_fault, arith, BarsAll, TellsAll}
use Rattle.dvg_make.proofs.Telling.{walks_last, none_here, finished_new, making_finished, present_finished, begun_ok, begun_present, called_moved, refused, as_bar, not_err, if_err_same, reached, has_room, room_moved, tells_stopped, tells_memory, tells_not_begun, begin_no_root, stopped_no_root}
use Rattle.dvg_make.proofs.making.Making.turn.Goals as goal

pub advance-requires-clause-partial : goal.advance-requires-clause-partial
advance-requires-clause-partial c = grind (arith, walks_last)

pub returns-in_err-entry-clause-err : goal.returns-in_err-entry-clause-err
returns-in_err-entry-clause-err c =
    if_err_same _ _ (λ obstacle. BarsAll c.args.rom.now c.args.self.now.done c.args.stack.now (obstacle_fault obstacle))
    c.from_residual.ensures.1 (λ from root h. as_bar _ from root _
    (none_here _ from root _ c.requires.top.0 c.args.partial (rw c.requires.top.1 at h) c.in_err-entry.ensures.err.never))

pub returns-in_err-entry-clause-told : goal.returns-in_err-entry-clause-told
returns-in_err-entry-clause-told c =
    if_err_same _ _ (TellsAll c.args.rom.now c.args.self.now.done c.args.stack.now c.args.stack.now) c.from_residual.ensures.1
    (λ from root h. (
      rw c.requires.top.1
          (tells_stopped _ from root _ c.requires.top.0 c.args.partial (rw c.requires.top.1 at h) _ c.in_err-entry.ensures.err),
      h.needed,
      h.room,
    ))

pub finish-requires-clause-new : goal.finish-requires-clause-new
finish-requires-clause-new c =
    finished_new _ _ _ _ c.requires.top.0 c.args.partial (rw c.requires.top.1 at c.requires.making.2) c.in-Finished.entry
    (rw c.in-Finished.is at c.in_ok-entry.ensures.ok)

pub finish-requires-clause-made : goal.finish-requires-clause-made
finish-requires-clause-made c = grind (arith)

pub finish-requires-clause-room : goal.finish-requires-clause-room
finish-requires-clause-room c = has_room _ _ _ _ c.requires.top.0 c.args.partial (rw c.requires.top.1 at c.requires.making.2)

pub returns-else-is_err-clause-right : goal.returns-else-is_err-clause-right
returns-else-is_err-clause-right c = not_err c.finish.result _ (sym c.if-is_err.ensures.value) c.finish.ensures.right

pub returns-then-is_err-clause-told : goal.returns-then-is_err-clause-told
returns-then-is_err-clause-told c =
    λ from root h. let m =
    rw c.requires.top.1 at h in (
      rw c.requires.top.1
          (tells_memory _ from root _ c.requires.top.0 c.args.partial m c.obstacle.result c.obstacle.ensures
          (reached _ _ _ (walks_last _ _ c.requires.top.0 c.args.partial m.partials))),
      h.needed,
      h.room,
    )

pub returns-else-is_err-clause-ok : goal.returns-else-is_err-clause-ok
returns-else-is_err-clause-ok c =
    λ from root h. rw (
      not_err c.finish.result _ (sym c.if-is_err.ensures.value) c.finish.ensures.ok,
      c.pop.ensures c.requires.top.0 c.args.partial c.requires.top.1,
    )
    (making_finished _ from root _ c.requires.top.0 c.args.partial (rw c.requires.top.1 at h) c.in-Finished.entry
    (rw c.in-Finished.is at c.in_ok-entry.ensures.ok))

pub returns-else-is_err-clause-present : goal.returns-else-is_err-clause-present
returns-else-is_err-clause-present c =
    λ addr key p. rw (
      not_err c.finish.result _ (sym c.if-is_err.ensures.value) c.finish.ensures.ok,
      c.pop.ensures c.requires.top.0 c.args.partial c.requires.top.1,
    )
    (present_finished _ _ _ _ c.requires.top.0 c.args.partial (rw c.requires.top.1 at c.requires.making.2) c.in-Finished.entry
    (rw c.in-Finished.is at c.in_ok-entry.ensures.ok) addr key (rw c.requires.top.1 at p))

pub returns-in-Ok-clause-ok : goal.returns-in-Ok-clause-ok
returns-in-Ok-clause-ok c =
    λ from root h. begun_ok _ from root _ c.requires.top.0 c.args.partial (rw c.requires.top.1 at h) c.in-Waiting.partial
    c.in-Waiting.addr (rw c.in-Waiting.is at c.in_ok-entry.ensures.ok) c.replace_top.new.self
    (c.replace_top.ensures c.requires.top.0 c.args.partial c.requires.top.1) c.begin.new.stack c.in-Ok.ensures.ok

pub returns-in-Ok-clause-present : goal.returns-in-Ok-clause-present
returns-in-Ok-clause-present c =
    λ addr key p. begun_present _ _ _ _ c.requires.top.0 c.args.partial (rw c.requires.top.1 at c.requires.making.2) c.in-Waiting.partial
    c.in-Waiting.addr (rw c.in-Waiting.is at c.in_ok-entry.ensures.ok) c.replace_top.new.self
    (c.replace_top.ensures c.requires.top.0 c.args.partial c.requires.top.1) c.begin.new.stack c.in-Ok.ensures.ok addr key
    (rw c.requires.top.1 at p)

pub returns-in-Err-clause-err : goal.returns-in-Err-clause-err
returns-in-Err-clause-err c =
    λ from root h. rw c.obstacle-in-Err.ensures
    (refused _ from root _ c.requires.top.0 c.args.partial (rw c.requires.top.1 at h) c.in-Waiting.partial c.in-Waiting.addr
    (rw c.in-Waiting.is at c.in_ok-entry.ensures.ok) c.replace_top.new.self
    (c.replace_top.ensures c.requires.top.0 c.args.partial c.requires.top.1) c.in-Waiting.partial.cursor.at c.in-Err.cause
    c.in-Err.ensures.err)

pub returns-in-Err-clause-told : goal.returns-in-Err-clause-told
returns-in-Err-clause-told c =
    λ from root h.
    let m = rw c.requires.top.1 at h in
    let w = rw c.in-Waiting.is at c.in_ok-entry.ensures.ok in
    let moved = c.in-Err.ensures.same ∙ c.replace_top.ensures c.requires.top.0 c.args.partial c.requires.top.1 in (
      tells_not_begun _ from root _ c.requires.top.0 c.args.partial m c.in-Waiting.partial c.in-Waiting.addr w c.begin.new.stack moved
          c.obstacle-in-Err.result c.in-Err.cause c.obstacle-in-Err.ensures (rw (← c.in-Err.ensures.same) at c.in-Err.ensures.err),
      called_moved _ from root _ c.requires.top.0 c.args.partial m c.in-Waiting.partial c.in-Waiting.addr w c.begin.new.stack moved,
      room_moved _ from root _ c.requires.top.0 c.args.partial m c.in-Waiting.partial c.begin.new.stack moved,
    )

pub returns-in_err-entry-clause-no_root : goal.returns-in_err-entry-clause-no_root
returns-in_err-entry-clause-no_root c = grind (arith, if_err_same, stopped_no_root)

pub returns-in-Err-clause-no_root : goal.returns-in-Err-clause-no_root
returns-in-Err-clause-no_root c = grind (arith, begin_no_root)
