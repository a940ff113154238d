-- What a walk over a frame's items gives.
use Rattle.dvg_check.proofs.Common.{ap, ◌∙◌, Machine, None, nat_lt, arith, List, subst, ◌≡◌, ℕ, nat_tests, frame_word, Window, Holds, Format, Instr, Rtsl, Halt, Entry, address_after, frame_context, FramePlaceKeeps, GoodFrame, FrameKeeps, CellKeeps, seen_at, FrameWhy, Frame, Known, IsForward, WalksTo}
use Rattle.dvg_check.specs.declared.fault.FrameWhy.TheVariants as frame

-- the last item of a frame is a halt
last_halts : (at : ℕ) (format : Format) (instr : Instr) → address_after Frame at format instr ≡ None → (instr ≡ Rtsl → ⊥)
    → IsForward at instr → instr ≡ Halt
last_halts at format instr e r f = grind (arith, nat_lt, nat_tests)

pub good_frame : (w : Window) (machine : Machine) (words : List ℕ) (list : List Entry) (budget : ℕ) (end : Known)
    → WalksTo (frame_context machine list) (frame_word machine words) 0 (FramePlaceKeeps w machine words list budget) end
    → GoodFrame w machine words list budget end.words end.depth
good_frame w machine words list budget end u =
    let halts = last_halts u.last.at u.last.format u.last.instr u.ends (kept frame.ReturnInFrame) (kept frame.BackJump) in
    record {
      keeps = u.keeps_all;
      items = u.items;
      at = u.last.at;
      format = u.last.format;
      leads = u.leads;
      halts =
          u.stands ∙ ap (Holds u.last.format) halts;
      count_is = grind (arith, u.knows, halts);
      depth_is = grind (arith, u.knows, halts);
    }
  where
    kept : (why : FrameWhy) → FrameKeeps w budget (seen_at (frame_context machine list) u.items u.last) why
    kept why = subst (λ cell. CellKeeps frame.Unmapped frame.Odd
        (λ i. FrameKeeps w budget (seen_at (frame_context machine list) u.items i)) u.last.at cell why) u.stands
        (u.keeps_all u.items u.last.at u.leads why)
