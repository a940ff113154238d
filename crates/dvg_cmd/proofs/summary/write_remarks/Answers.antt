use Rattle.dvg_cmd.proofs.Common.{ℕ, List, [], ◌∷◌, ◌++◌, ◌<◌, ◌∙◌, ap, append-nil, arith, length, subst, sym}
use Rattle.dvg_cmd.proofs.LineByLine.{one_line}
use Rattle.dvg_cmd.proofs.Writing.{same_texts}
use Rattle.dvg_cmd.specs.Remarking.{remarks_texts}
use Rattle.dvg_cmd.proofs.summary.write_remarks.Goals as goal

pub returns-in-Some : goal.returns-in-Some
returns-in-Some g c =
    let line = c.remarks_line_of-line.ensures in
    let h = c.write_lines.ensures in
    same_texts (ap (λ (text : List ℕ). text ∷ []) line ∙ ap remarks_texts (sym c.in-Some.is))
    (one_line c.write_lines.result
    (append-nil (c.as_slice.result.now ++ []) ∙ append-nil c.as_slice.result.now ∙ c.as_slice.ensures.value)
    (subst (λ text. 0 < length text) (sym line) (omega arith)) h.ok h.prefix h.one_write h.count)
