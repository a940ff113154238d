-- The stored return places are at most `max_stack`, in each state of each run.
use Rattle.dvg_words.proofs.Common.{arith, subst, zero, suc, ◌≤◌, ℕ, length, State, Status, Reached, next_status, Memory}
use Rattle.dvg_words.specs.Laws.{state_of, StackWithinMax}

abbrev StackWithin : State → Type 0
StackWithin s = length s.return_stack ≤ s.max_stack

within_next : (m : Memory) (s : State) → StackWithin s → StackWithin (state_of (next_status m s))
unfolding next_status
within_next m s h = grind (arith)

within_run : (m : Memory) (steps : ℕ) (a b : Status) → Reached m steps a b → StackWithin (state_of a) → StackWithin (state_of b)
within_run m zero a b reached h = subst (λ status. StackWithin (state_of status)) reached h
within_run m (suc steps) a b reached h = within_run m steps reached.0 b reached.2 (grind (arith, within_next, h, reached.1))

pub stack_within_max : StackWithinMax
stack_within_max m place scale steps after reached = within_run m steps _ after reached (omega arith)
