use Rattle.dvg_make.proofs.Common.{◌≡◌, refl, false, Option, None, ◌∙◌, rules, Entry, arith, is_some}
use Rattle.dvg_make.proofs.Telling.{first_fault, first_ok, first_present, called_none, room_of_none, tells_first, begin_no_root}
use Rattle.dvg_make.proofs.making.Making.need.Goals as goal

nothing_found : (o p : Option Entry) → o ≡ p → is_some o ≡ false → p ≡ None
nothing_found o p e h = grind (arith)

pub returns-in-Err-clause-err : goal.returns-in-Err-clause-err
returns-in-Err-clause-err c =
    record {
      bars = rw c.obstacle-obstacle.ensures
          (first_fault c.args.rom.now c.args.self.now.done c.args.addr c.args.key c.requires.right.done
          (nothing_found _ _ c.find.ensures.entry (search rules)) c.new-stack.result c.new-stack.ensures c.start.result.cursor.at
          c.in-Err.cause c.in-Err.ensures.err);
      told = record {
        list = c.args.self.now.done;
        is_done = c.requires.right.done;
        extends = λ addr key e q. q;
        needed = called_none c.args.rom.now c.args.self.now.done (c.args.addr, c.args.key) c.begin.new.stack
            (c.in-Err.ensures.same ∙ c.new-stack.ensures);
        room = room_of_none c.args.self.now.done c.begin.new.stack (c.in-Err.ensures.same ∙ c.new-stack.ensures) c.requires.right.done.room;
        tells = tells_first c.args.rom.now c.args.self.now.done c.args.addr c.args.key c.requires.right.done.unique
            (nothing_found _ _ c.find.ensures.entry (search rules)) c.new-stack.result c.begin.new.stack c.new-stack.ensures
            c.in-Err.ensures.same c.obstacle-obstacle.result c.in-Err.cause (rw c.start.ensures at c.obstacle-obstacle.ensures)
            c.in-Err.ensures.err;
      };
      no_root = begin_no_root c.args.self.now.done c.new-stack.result c.args.addr c.args.key c.start.result.cursor
          c.obstacle-obstacle.result c.in-Err.cause c.obstacle-obstacle.ensures c.in-Err.ensures.err;
      call = refl;
    }

pub loop-partial-init : goal.loop-partial-init
loop-partial-init c =
    let made = first_ok c.args.rom.now c.args.self.now.done c.args.addr c.args.key c.requires.right.done c.requires.near c.requires.key
    (nothing_found _ _ c.find.ensures.entry (search rules)) c.new-stack.result c.begin.new.stack c.new-stack.ensures
    c.in_default.ensures.ok in
    grind (
      arith,
      made,
      nothing_found,
      (first_present c.args.self.now.done c.args.addr c.args.key c.new-stack.result c.begin.new.stack c.new-stack.ensures
          c.in_default.ensures.ok),
    )

pub loop-partial-preserved : goal.loop-partial-preserved
loop-partial-preserved c =
    search (
      rules,
      c.in_default-turn.ensures.ok c.args.self.now.done (c.args.addr, c.args.key) c.loop-partial.invariant.making,
      c.in_default-turn.ensures.present c.args.addr c.args.key c.loop-partial.invariant.present,
    )

pub returns-in-Err-turn-clause-err : goal.returns-in-Err-turn-clause-err
returns-in-Err-turn-clause-err c =
    let told = c.in-Err-turn.ensures.told c.args.self.now.done (c.args.addr, c.args.key) c.loop-partial.invariant.making in
    search (rules, c.in-Err-turn.ensures.err c.args.self.now.done (c.args.addr, c.args.key) c.loop-partial.invariant.making)
