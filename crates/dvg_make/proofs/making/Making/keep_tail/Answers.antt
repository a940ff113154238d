use Rattle.dvg_make.proofs.Common.{subst, arith, Advances}
use Rattle.dvg_cert.proofs.ListParts.{entry_claim, near_last}
use Rattle.dvg_make.proofs.Joining.{tail_kept}
use Rattle.dvg_make.proofs.making.Making.keep_tail.Goals as goal

pub add-requires-clause-claim : goal.add-requires-clause-claim
add-requires-clause-claim c =
    entry_claim _ _ c.in-Ok-Finished.entry (near_last _ c.requires.right.map)
    (subst (Advances c.args.rom.now c.args.self.now.done c.args.mark) c.in-Ok-Finished.field-0-is c.in-Ok-Finished.ensures.ok).entry

pub returns-in_ok-add-clause-right : goal.returns-in_ok-add-clause-right
returns-in_ok-add-clause-right c =
    grind (
      arith,
      (tail_kept c.args.rom.now c.args.self.now.done c.args.self.now.tails c.add.new.self c.args.mark c.in-Ok-Finished.entry
          c.requires.right.tails (subst (Advances c.args.rom.now c.args.self.now.done c.args.mark) c.in-Ok-Finished.field-0-is
          c.in-Ok-Finished.ensures.ok) c.in_ok-add.ensures.ok),
    )
