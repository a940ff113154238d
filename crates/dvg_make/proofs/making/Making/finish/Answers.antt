use Rattle.dvg_make.proofs.Common.{◌∷◌, []}
use Rattle.dvg_cert.proofs.ListParts.{entry_claim, near_last}
use Rattle.dvg_make.proofs.Chains.{done_more}
use Rattle.dvg_make.proofs.Joining.{tails_grow}
use Rattle.dvg_make.proofs.Merging.{extends_more}
use Rattle.dvg_make.proofs.making.Making.finish.Goals as goal

pub keep_tails-requires-clause-key : goal.keep_tails-requires-clause-key
keep_tails-requires-clause-key c = c.requires.made.entry.key

pub add-requires-clause-claim : goal.add-requires-clause-claim
add-requires-clause-claim c = entry_claim _ _ c.args.entry (near_last _ c.requires.right.map) c.requires.made.entry

pub returns-clause-right : goal.returns-clause-right
returns-clause-right c =
    record {
      map = c.requires.right.map;
      done = rw (c.in_ok-add.ensures.ok, c.in_ok-keep_tails.ensures.same)
          (done_more c.args.rom.now c.args.self.now.done c.args.entry c.requires.right.done c.requires.made c.requires.new c.requires.room);
      tails = rw c.in_ok-add.ensures.ok
          (tails_grow c.args.rom.now c.keep_tails.new.self.done _ c.keep_tails.new.self.tails
          (extends_more c.keep_tails.new.self.done (c.args.entry ∷ [])) c.in_ok-keep_tails.ensures.right.tails);
    }
