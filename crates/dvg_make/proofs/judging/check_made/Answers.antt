use Rattle.dvg_make.proofs.Common.{length, ap, Ok, Err, Entry, List, arith}
use Rattle.dvg_check.specs.declared.finding.Finding.TheVariants as finding
use Rattle.dvg_make.proofs.OwnCertificate.{judged_by}
use Rattle.dvg_make.proofs.judging.check_made.Goals as goal

pub returns-in-Ok-judge_frame-clause-judged : goal.returns-in-Ok-judge_frame-clause-judged
returns-in-Ok-judge_frame-clause-judged c =
    let f = rw c.in-Ok.ensures.ok at c.in-Ok-judge_frame.ensures in
    judged_by c.args.rom.now c.args.frame.now c.args.window c.args.budget c.args.made.now.cert.entries c.requires.made.list
    (Ok (record {
      shapes = length c.entries.result.now;
      words = c.in-Ok-judge_frame.accepted.words;
      depth =
          c.in-Ok-judge_frame.accepted.depth;
    })) tt
    (c.in-Ok.ensures.good, f.ok, ap (λ (list : List Entry). length list) c.entries.ensures.value) f.means

pub returns-in-Err-clause-judged : goal.returns-in-Err-clause-judged
returns-in-Err-clause-judged c =
    judged_by c.args.rom.now c.args.frame.now c.args.window c.args.budget c.args.made.now.cert.entries c.requires.made.list
    (Err (finding.Shape c.in-Err.finding)) tt c.in-Err.ensures.err.first tt

pub returns-in-Err-judge_frame-clause-found : goal.returns-in-Err-judge_frame-clause-found
returns-in-Err-judge_frame-clause-found c = grind (arith)

pub returns-in-Err-judge_frame-clause-judged : goal.returns-in-Err-judge_frame-clause-judged
returns-in-Err-judge_frame-clause-judged c =
    let f = rw c.in-Ok.ensures.ok at c.in-Err-judge_frame.ensures in
    judged_by c.args.rom.now c.args.frame.now c.args.window c.args.budget c.args.made.now.cert.entries c.requires.made.list
    (Err (finding.Frame c.in-Err-judge_frame.finding)) tt (c.in-Ok.ensures.good, f.err.fault) tt
