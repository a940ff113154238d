use Rattle.dvg_cmd.proofs.Common.{Judges, arith}
use Rattle.dvg_cmd.proofs.Reporting.{reports, reports_accepted}
use Rattle.dvg_cmd.proofs.running.run_check_in.Given.{Over}
use Rattle.dvg_cmd.proofs.running.run_check_in.Goals.{After-write_report}
use Rattle.dvg_cmd.proofs.running.run_check_in.Goals as goal

-- the verdict is the one on all bytes that the readers held
judged : (g : Over) (c : After-write_report g)
    → Judges c.args.options.now.machine c.args.options.now.mode c.args.options.now.window (g.R1.Read.remaining c.args.rom.now)
    (g.R2.Read.remaining c.args.cert.now) (g.R3.Read.remaining c.args.frame.now) c.args.options.now.budget
    c.in-Ok-read_verdict.judged.verdict
judged g c =
    (rw (c.as_slice.ensures.value, c.as_slice-2.ensures.value) at c.in-Ok-read_verdict.ensures.verdict) _ _ c.in-Ok.ensures.bytes
    c.in-Ok-read_frame.ensures.bytes

pub returns-clause-report : goal.returns-clause-report
returns-clause-report g c =
    grind (
      arith,
      (reports c.args.detail c.account_of-behind.result c.account_of-behind.ensures c.in-Ok-read_verdict.judged.verdict),
      (judged g (goal.at.returns-clause-report g c).After-write_report),
    )

pub returns-clause-means : goal.returns-clause-means
returns-clause-means g c =
    grind (
      arith,
      (reports_accepted c.args.detail c.account_of-behind.result c.account_of-behind.ensures
          c.in-Ok-read_verdict.judged.verdict),
      (judged g (goal.at.returns-clause-means g c).After-write_report),
    )
