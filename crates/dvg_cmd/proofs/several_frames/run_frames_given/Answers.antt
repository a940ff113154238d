use Rattle.dvg_cmd.proofs.Common.{rules, subst, IsBehind}
use Rattle.dvg_cmd.specs.Remarking.{answer_detail}
use Rattle.dvg_cmd.proofs.Reporting.{refusal_reported}
use Rattle.dvg_cmd.proofs.several_frames.run_frames_given.Goals as goal

pub run_frames-requires-clause-valid : goal.run_frames-requires-clause-valid
run_frames-requires-clause-valid g c = search rules

pub refuse-requires-in-Err-judge_shapes : goal.refuse-requires-in-Err-judge_shapes
refuse-requires-in-Err-judge_shapes g c = search rules

pub returns-in-Ok-judge_shapes-clause-report : goal.returns-in-Ok-judge_shapes-clause-report
returns-in-Ok-judge_shapes-clause-report g c = search rules

pub returns-in-Ok-judge_shapes-clause-prefix : goal.returns-in-Ok-judge_shapes-clause-prefix
returns-in-Ok-judge_shapes-clause-prefix g c = search rules

pub returns-in-Err-clause-refused : goal.returns-in-Err-clause-refused
returns-in-Err-clause-refused g c =
    refusal_reported c.args.options.now.machine (answer_detail c.args.listing.detail) c.args.options.now.window c.args.rom.now
    c.args.cert.now _ c.fault.result c.in-Err.is c.fault.ensures c.text_account-behind.result
    (subst (λ d. IsBehind d c.text_account-behind.result) c.of_answer-detail.ensures c.text_account-behind.ensures)
    c.write_report.result _ _ _ _ c.write_report.ensures.outcome c.write_report.ensures.written c.write_report.ensures.one_write
