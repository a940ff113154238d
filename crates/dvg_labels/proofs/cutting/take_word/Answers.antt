use Rattle.dvg_labels.proofs.Common.{take_rest}
use Rattle.dvg_labels.proofs.Parts.{word_off}
use Rattle.dvg_labels.proofs.cutting.take_word.Goals as goal

pub returns-clause-behind : goal.returns-clause-behind
returns-clause-behind c =
    rw take_rest ((word_off c.args.line.now _ _ _ (take_rest c.args.line.now c.unwrap_or.result)
    (rw c.visible_at.ensures at c.unwrap_or.ensures) (rw c.blank_at.ensures at c.unwrap_or-end.ensures)).1)
