use Rattle.dvg_make.proofs.Common.{[], ◌∷◌}
use Rattle.dvg_make.proofs.OwnCertificate.{made_refused, made_verdict}
use Rattle.dvg_make.proofs.Causes.{account_cause, call_cause}
use Rattle.dvg_make.proofs.judging.explain_judging.Goals as goal

pub returns-in-Err : goal.returns-in-Err
returns-in-Err c =
    let told = c.account_of.ensures c.args.rom.now [] (c.args.frame.now ∷ []) (rw c.from_ref.ensures.value at c.in-Err.ensures.err) in
    let cause = account_cause c.args.rom.now [] (c.args.frame.now ∷ []) c.account_of.result told.why told.chain in
    search (
      told.refuse,
      told.why,
      told.chain,
      made_verdict _ _ c.args.window c.args.budget _ _ told.refuse,
      made_refused _ _ c.args.window c.args.budget _ _ told.refuse,
      call_cause _ _ _ _ cause,
    )
