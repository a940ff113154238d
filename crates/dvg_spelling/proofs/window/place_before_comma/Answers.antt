use Rattle.dvg_spelling.proofs.Windows.{parts}
use Rattle.dvg_spelling.proofs.window.place_before_comma.Goals as goal

pub returns-in_err-place-clause-none : goal.returns-in_err-place-clause-none
returns-in_err-place-clause-none c =
    rw c.from_residual.ensures (λ n rest le is. rw c.in_err-place.was at
    (parts c.args.text.now c.split_once.result c.split_once.ensures.cases n rest le is))

pub returns-in_err-place_of-clause-none : goal.returns-in_err-place_of-clause-none
returns-in_err-place_of-clause-none c =
    rw c.from_residual-in_err-place_of.ensures
    (λ n rest le is. c.in_err-place_of.ensures.none n le
    (rw c.in_ok-place.was at (parts c.args.text.now c.split_once.result c.split_once.ensures.cases n rest le is)).0)
