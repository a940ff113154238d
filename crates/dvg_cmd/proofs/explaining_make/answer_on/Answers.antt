use Rattle.dvg_cmd.proofs.Common.{ap, length}
use Rattle.dvg_make.proofs.Causes.{account_cause}
use Rattle.dvg_cmd.proofs.FramesRuns.{frames_made, frames_refused}
use Rattle.dvg_cmd.proofs.explaining_make.answer_on.Goals as goal

pub returns-in-Err-clause-refused : goal.returns-in-Err-clause-refused
returns-in-Err-clause-refused c =
    λ held readers read. (rw c.unasked.ensures.made (c.in-Err.ensures.refused held readers read c.args.roots.now))

pub returns-in-Ok-explain_making-clause-made : goal.returns-in-Ok-explain_making-clause-made
returns-in-Ok-explain_making-clause-made c =
    λ held readers read. search (
      c.in-Ok-explain_making.cert.entries,
      frames_made c.in-Ok.ensures.images read c.deref.ensures.value c.args.roots.now c.in-Ok-explain_making.cert.entries
          c.in-Ok-explain_making.ensures.ok,
      ap length c.entries.ensures.value,
    )

pub returns-clause-refused : goal.returns-clause-refused
returns-clause-refused c =
    λ held readers read. rw c.into.ensures
    (frames_refused c.in-Ok.ensures.images read c.deref.ensures.value c.args.roots.now c.in-Err-explain_making.account.fault
    c.in-Err-explain_making.ensures.err
    (account_cause c.in-Ok.images.rom c.args.roots.now c.deref.result.now c.in-Err-explain_making.account
    c.in-Err-explain_making.ensures.why c.in-Err-explain_making.ensures.chain))
