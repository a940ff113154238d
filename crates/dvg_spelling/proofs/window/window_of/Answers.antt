use Rattle.dvg_spelling.proofs.Windows.{has_second, has_third, has_fourth, is_window, if_none}
use Rattle.dvg_spelling.proofs.window.window_of.Goals as goal

pub returns-in_err-x_max-clause-none : goal.returns-in_err-x_max-clause-none
returns-in_err-x_max-clause-none c =
    rw c.from_residual-in_err-x_max.ensures
    (λ w h. has_second c.args.text.now w h c.in_ok-x_min.x_min c.in_ok-x_min.rest.now c.in_ok-x_min.ensures.some
    c.in_err-x_max.ensures.none)

pub returns-in_err-y_min-clause-none : goal.returns-in_err-y_min-clause-none
returns-in_err-y_min-clause-none c =
    rw c.from_residual-in_err-y_min.ensures
    (λ w h. has_third c.args.text.now w h c.in_ok-x_min.x_min c.in_ok-x_min.rest.now c.in_ok-x_min.ensures.some c.in_ok-x_max.x_max
    c.in_ok-x_max.rest.now c.in_ok-x_max.ensures.some c.in_err-y_min.ensures.none)

pub returns-in_err-place_of-clause-none : goal.returns-in_err-place_of-clause-none
returns-in_err-place_of-clause-none c =
    rw c.from_residual-in_err-place_of.ensures
    (λ w h. has_fourth c.args.text.now w h c.in_ok-x_min.x_min c.in_ok-x_min.rest.now c.in_ok-x_min.ensures.some c.in_ok-x_max.x_max
    c.in_ok-x_max.rest.now c.in_ok-x_max.ensures.some c.in_ok-y_min.y_min c.in_ok-y_min.y_max.now c.in_ok-y_min.ensures.some
    c.in_err-place_of.ensures.none)

pub returns-clause-none : goal.returns-clause-none
returns-clause-none c =
    if_none c.new.result (λ none w h. none
    (is_window c.args.text.now w h c.in_ok-x_min.x_min c.in_ok-x_min.rest.now c.in_ok-x_min.ensures.some c.in_ok-x_max.x_max
    c.in_ok-x_max.rest.now c.in_ok-x_max.ensures.some c.in_ok-y_min.y_min c.in_ok-y_min.y_max.now c.in_ok-y_min.ensures.some
    c.in_ok-place_of.field-0 c.in_ok-place_of.ensures.some)) c.new.ensures.none
