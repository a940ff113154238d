-- What is safe, state by state.
use Rattle.dvg_check.proofs.Common.{arith, ℕ, Status, state_of, InWindow, Memory, Window, Ends, IsSafeState, IsSafeStatus, at_place, StrokeInWindow, SafeStrokes}

-- what is safe is no fault
pub safe_state : (m : Memory) (w : Window) (words depth steps : ℕ) (after : Status) → IsSafeStatus m w words depth steps after
    → IsSafeState m w words depth steps (state_of after)
safe_state m w words depth steps after h = grind (arith)

pub safe_strokes : StrokeInWindow → SafeStrokes
safe_strokes within m w words depth safe place scale steps after small reached stroke listed p on =
    let s = safe_state m w words depth steps after (safe.each place scale small steps after reached) in
    let ends = at_place (Ends (InWindow w)) (state_of after).strokes stroke s.lit listed in
    within w stroke.from stroke.to p ends.0 ends.1 on.0 on.1
