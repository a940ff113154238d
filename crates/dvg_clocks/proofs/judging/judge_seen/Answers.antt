use Rattle.dvg_clocks.proofs.Common.{◌≡◌, sym, ◌∙◌, subst}
use Rattle.std.specs.Prelude.{IfOk, Ok, Result}
use Rattle.dvg_check.specs.Means.{Means}
use Rattle.dvg_check.specs.declared.fault.Mode.TheVariants.{Exact}
use Rattle.dvg_check.specs.declared.verdict.Yes.{Yes}
use Rattle.dvg_make.specs.Judging.{AreLeast, VerdictByMade, own_verdict}
use Rattle.dvg_make.specs.declared.judging.FrameRefusal.{FrameRefusal}
use Rattle.dvg_clocks.proofs.OwnCertificate.{accepted}
use Rattle.dvg_clocks.proofs.judging.judge_seen.Goals as goal

pub clocks_by-clocks-requires : goal.clocks_by-clocks-requires
clocks_by-clocks-requires g c =
    accepted c.args.rom.now c.args.frame.now c.args.window c.args.budget c.requires c.in-Ok.yes c.in-Ok-judged.made.cert.entries
    (rw c.in-Ok-judged.is at c.explain_judging-judged.ensures.ok)
    (subst (VerdictByMade c.args.rom.now c.args.frame.now c.args.window c.args.budget) (sym c.own_verdict.ensures ∙ c.in-Ok.is)
    c.explain_judging-judged.ensures.verdict)

pub returns-in-Ok-clocks-clause-timed : goal.returns-in-Ok-clocks-clause-timed
returns-in-Ok-clocks-clause-timed g c =
    let yes = c.in-Ok.yes in
    let is : own_verdict c.explain_judging-judged.result ≡ Ok yes = sym c.own_verdict.ensures ∙ c.in-Ok.is in
    let verdict : VerdictByMade c.args.rom.now c.args.frame.now c.args.window c.args.budget (Ok yes) =
    subst (VerdictByMade c.args.rom.now c.args.frame.now c.args.window c.args.budget) is c.explain_judging-judged.ensures.verdict in
    let made = rw c.in-Ok-judged.is at c.explain_judging-judged.ensures.ok in
    let clocks = c.clocks_by-clocks.ensures in
    record {
      verdict = (
        verdict,
        record {
          list = c.in-Ok-judged.made.cert.entries;
          made = made;
          sum = (rw c.in-Ok-clocks.is at clocks.value)
              (accepted c.args.rom.now c.args.frame.now c.args.window c.args.budget c.requires yes c.in-Ok-judged.made.cert.entries made
              verdict);
        },
        rw c.in-Ok-clocks.is at clocks.within,
      );
      means =
          subst (λ (v : Result Yes FrameRefusal). IfOk v
          (λ (y : Yes). Means Exact (record { frame = c.args.frame.now; rom = c.args.rom.now }) c.args.window y.words y.depth)) is
          c.explain_judging-judged.ensures.means;
      least = subst (λ (v : Result Yes FrameRefusal). IfOk v
          (λ (y : Yes). AreLeast c.args.rom.now c.args.frame.now c.args.window y.words y.depth)) is c.explain_judging-judged.ensures.least;
      clocks = λ board. (rw c.in-Ok-clocks.is at clocks.circuit) board;
      refused = tt;
    }
