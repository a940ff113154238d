-- The beam is where it was last set, moved by the sum of the moves since then.
use Rattle.dvg_check.proofs.Common.{zero, subst, sym, suc, nat_lt, ◌≡◌, ℕ, shift, displacement, labs_place, State, Status, Running, Reached, start, next_status, Memory, state_of, shift_origin, shift_shift, Course, course_after, course_along, course_at_start, arith, place_of, PlaceIsSum}

-- what each step keeps of course and status holds all along a run
pub along :
    (m : Memory) (P : Course → Status → Type 0)
    → ((c : Course) (s : State) → P c (Running s) → P (course_after m (Running s) c) (next_status m s))
    → (steps : ℕ) (c : Course) (from to : Status) (run : Reached m steps from to) → P c from → P (course_along m steps from to run c) to
along m P kept zero c from to run h = subst (P c) run h
along m P kept (suc steps) c (Running s) to run h =
    grind (
      arith,
      (along m P kept steps (course_after m (Running s) c) run.0 to run.2
          (subst (P (course_after m (Running s) c)) run.1 (kept c s h))),
      course_after,
    )
along m P kept (suc steps) c from to run h = absurd run.1

pub place_is_sum : PlaceIsSum
unfolding next_status
place_is_sum m place scale steps after run =
    along m (λ c status. (state_of status).place ≡ place_of c)
    (λ c s h. grind (arith, shift, displacement, shift_shift, shift_origin, labs_place, nat_lt))
    steps (course_at_start place) (Running (start place scale)) after run (sym (shift_origin place))
