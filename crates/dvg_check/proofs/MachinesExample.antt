-- The two frames that one machine accepts and the other refuses, item by item.
use Rattle.dvg_check.proofs.Common.{arith, refl, pos, ◌∷◌, ℕ, [], ints, displacement, screen, cell_at, instruction_of, Machine, Profile, Board, Long, Labs, FramePlaceKeeps, GoodFrame, Item, Draws, FirstFrameFault, AllBefore}
use Rattle.dvg_check.specs.MachinesExample.{edge_frame, left_frame}
use Rattle.dvg_check.specs.declared.fault.FrameWhy.TheVariants as frame
use Rattle.dvg_check.proofs.Example.{accepted}

-- ---- what is there

abbrev draw_at : ℕ → Item
draw_at at = record { at = at; format = Long; instr = Draws (record { dx = pos 1; dy = pos 0; lscale = 8; bright = 7 }) }

abbrev back_item : Item
back_item = record { at = 2; format = Long; instr = Draws (record { dx = pos 8; dy = pos 0; lscale = 9; bright = 0 }) }

abbrev labs_at : ℕ → Item
labs_at x = record { at = 0; format = Long; instr = Labs x 100 0 }

-- ---- the frame at the edge

-- the LABS and the first draw, on both machines
edge_before : (machine : Machine) → AllBefore (FramePlaceKeeps screen machine edge_frame [] 20000) (draw_at 2 ∷ labs_at 1022 ∷ [])
unfolding cell_at instruction_of displacement
edge_before machine = grind (arith, ints)

pub edge_accepted : GoodFrame screen Profile edge_frame [] 20000 7 0
unfolding cell_at instruction_of displacement
edge_accepted =
    accepted Profile edge_frame [] (draw_at 4 ∷ draw_at 2 ∷ labs_at 1022 ∷ []) 6 (((refl, refl, refl), refl, refl), refl, refl) refl
    ((edge_before Profile, λ why. grind (arith, ints)), λ why. grind (arith, ints))

-- the second draw of the board ends right of the window, and keeps each rule of a lower number
pub edge_refused : FirstFrameFault screen Board edge_frame [] 20000 (record { word = 4; why = frame.OffScreen })
unfolding cell_at instruction_of displacement
edge_refused =
    record {
      items = draw_at 2 ∷ labs_at 1022 ∷ [];
      leads = ((refl, refl, refl), refl, refl);
      before = edge_before Board;
      breaks = λ kept. omega (arith, ints, kept.1.0.right);
      lowest = λ other low. grind (arith);
    }

-- ---- the frame from the left

pub left_accepted : GoodFrame screen Board left_frame [] 20000 7 0
unfolding cell_at instruction_of displacement
left_accepted =
    accepted Board left_frame [] (draw_at 4 ∷ back_item ∷ labs_at 4088 ∷ []) 6 (((refl, refl, refl), refl, refl), refl, refl) refl
    ((((tt, λ why. grind (arith, ints)), λ why. grind (arith, ints)), λ why. grind (arith, ints)), λ why. grind (arith, ints))

-- the profile decodes no LABS to -8
pub left_refused : FirstFrameFault screen Profile left_frame [] 20000 (record { word = 0; why = frame.Odd })
unfolding cell_at instruction_of
left_refused = record { items = []; leads = refl; before = tt; breaks = λ kept. kept refl; lowest = λ other low. grind (arith) }
