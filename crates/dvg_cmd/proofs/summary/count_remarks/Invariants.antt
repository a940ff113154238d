use Rattle.dvg_cmd.proofs.Common.{◌≡◌, drop}
use Rattle.dvg_cmd.specs.Remarking.{with_remarks}
use Rattle.dvg_cmd.proofs.summary.count_remarks.Given as goal

abbrev pub invariant-loop-remark : goal.invariant-loop-remark
invariant-loop-remark l = with_remarks (drop l.remark-index l.found) l.tally ≡ with_remarks l.found l.fn.tally
