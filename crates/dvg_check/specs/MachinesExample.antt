-- Two worked frames without calls: each machine accepts one of them, and refuses the other.
use Rattle.std.specs.Prelude.{ℕ, List, [], ◌∷◌}
use Rattle.dvg_words.specs.declared.machine.Machine.TheVariants.{Profile, Board}
use Rattle.dvg_words.specs.Beam.{screen}
use Rattle.dvg_check.specs.Rules.{GoodFrame}
use Rattle.dvg_check.specs.FirstFault.{FirstFrameFault}
use Rattle.dvg_check.specs.declared.fault.FrameWhy.TheVariants as frame

-- LABS to place 1022, 100 and global scale 0; twice lit, size 1 to the right at local scale 8; HALT
abbrev pub edge_frame : List ℕ
edge_frame = 0xA064 ∷ 0x03FE ∷ 0x8000 ∷ 0x7001 ∷ 0x8000 ∷ 0x7001 ∷ 0xB000 ∷ []

-- LABS to place -8, 100 and global scale 0; dark, size 8 to the right at local scale 9; lit, size 1 to the right at local scale 8;
-- HALT
abbrev pub left_frame : List ℕ
left_frame = 0xA064 ∷ 0x0FF8 ∷ 0x9000 ∷ 0x0008 ∷ 0x8000 ∷ 0x7001 ∷ 0xB000 ∷ []

-- The profile draws two half places from 1022 to the edge at 1023, and the board two whole ones, the second (at word 4) to 1024.
-- The board draws from the left edge after a dark way there from -8, and the profile refuses the LABS to -8 as an odd one.
pub record WorkedMachines : Type 0 where
  pub edge_accepted : GoodFrame screen Profile edge_frame [] 20000 7 0
  pub edge_refused : FirstFrameFault screen Board edge_frame [] 20000 (record { word = 4; why = frame.OffScreen })
  pub left_accepted : GoodFrame screen Board left_frame [] 20000 7 0
  pub left_refused : FirstFrameFault screen Profile left_frame [] 20000 (record { word = 0; why = frame.Odd })
