use Rattle.dvg_clocks.proofs.Common.{◌∙◌, ap, subst}
use Rattle.std.specs.Prelude.{Err, IfOk, Ok, Result}
use Rattle.dvg_make.specs.Frames.{FrameMade}
use Rattle.dvg_make.specs.declared.account.MakeAccount.{MakeAccount}
use Rattle.dvg_make.specs.declared.judging.JudgedFrame.{JudgedFrame}
use Rattle.dvg_clocks.specs.Judging.{IsAccepted, IsTimed, Slow}
use Rattle.dvg_clocks.proofs.OwnCertificate.{accepted}
use Rattle.dvg_clocks.proofs.judging.explain_timed.Goals as goal

pub refused_time-time-requires : goal.refused_time-time-requires
refused_time-time-requires c at is = own c.judge_seen-judged.result.0 c.judge_seen-judged.ensures.made
  where
    timed : IsTimed c.args.timing.now c.args.rom.now c.args.frame.now c.args.window c.args.budget (Err (Slow at))
    timed = subst (IsTimed c.args.timing.now c.args.rom.now c.args.frame.now c.args.window c.args.budget) (c.in-Err.is ∙ ap Err is)
        c.judge_seen-judged.ensures.timed

    own : (judged : Result JudgedFrame MakeAccount)
        → IfOk judged (λ (j : JudgedFrame). FrameMade c.args.rom.now c.args.frame.now j.cert.entries)
        → IfOk judged (λ (j : JudgedFrame). IsAccepted (record { frame = c.args.frame.now; rom = c.args.rom.now }) j.cert.entries)
    own (Ok j) made =
        accepted c.args.rom.now c.args.frame.now c.args.window c.args.budget c.requires timed.verdict.yes j.cert.entries made
        timed.verdict.verdict
    own (Err e) made = tt
