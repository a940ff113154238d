-- The worked example: what stands at its places, and that each item keeps each rule.
use Rattle.dvg_check.proofs.Common.{Shape, ShapeWhy, ShapePlaceKeeps, LeadsTo, AllBefore, GoodFrame, words_before, depth_before, ◌+◌, ℕ, arith, List, refl, pos, ◌≡◌, ◌∷◌, [], ints, displacement, screen, cell_at, instruction_of, frame_word, rom_word, Machine, DrawFields, Holds, Long, Short, Labs, Halt, Jsrl, Rtsl, frame_context, FramePlaceKeeps, GoodShape, Good, FrameWhy, Mode, Bound, Exact, Item, Frame, Entry, length-replicate, Draws, rom_for, example_entry, example_list, WorkedExample}
use Rattle.dvg_words.specs.Example.{example_frame}
use Rattle.dvg_check.proofs.Faults.{all_kept}

-- ---- the shape

abbrev stroke : DrawFields
stroke = record { dx = pos 1023; dy = pos 767; lscale = 9; bright = 7 }

abbrev pub draw_item : Item
draw_item = record { at = 2048; format = Long; instr = Draws stroke }

abbrev pub return_item : Item
return_item = record { at = 2050; format = Short; instr = Rtsl }

pub draw_there : (machine : Machine) → cell_at (rom_word (rom_for machine)) 2048 ≡ Holds Long (Draws stroke)
unfolding cell_at instruction_of
draw_there machine = grind (arith)

pub return_there : (machine : Machine) → cell_at (rom_word (rom_for machine)) 2050 ≡ Holds Short Rtsl
unfolding cell_at instruction_of
return_there machine = grind (arith)

-- the stroke before the return
shape_good : (machine : Machine) (mode : Mode) → GoodShape mode screen (rom_for machine) example_list example_entry
unfolding cell_at instruction_of displacement
shape_good machine mode =
    all_kept Shape (rom_word (rom_for machine)) 2048 ShapeWhy (ShapePlaceKeeps mode screen (rom_for machine) example_list example_entry)
    (draw_item ∷ []) return_item
    (refl, draw_there machine, refl) (return_there machine) refl ((tt, λ why. grind (arith, ints)), λ why. grind (arith, ints))

shapes_good : (machine : Machine) (mode : Mode) → Good mode screen (rom_for machine) example_list
shapes_good machine mode e h3 = grind (arith, screen, shape_good)

-- ---- the frame

abbrev labs_item : Item
labs_item = record { at = 0; format = Long; instr = Labs 0 128 0 }

abbrev call_item : Item
call_item = record { at = 2; format = Short; instr = Jsrl 2048 }

-- a frame whose items and HALT keep all rules
pub accepted : (machine : Machine) (words : List ℕ) (list : List Entry) (items : List Item) (at : ℕ)
    → LeadsTo Frame (frame_word machine words) 0 items at → cell_at (frame_word machine words) at ≡ Holds Short Halt
    → AllBefore (FramePlaceKeeps screen machine words list 20000) (record { at = at; format = Short; instr = Halt } ∷ items)
    → GoodFrame screen machine words list 20000 (words_before (frame_context machine list) items + 1)
    (depth_before (frame_context machine list) items)
accepted machine words list items at leads halts kept =
    record {
      keeps = all_kept Frame (frame_word machine words) 0 FrameWhy (FramePlaceKeeps screen machine words list 20000) items
          (record { at = at; format = Short; instr = Halt }) leads halts refl kept;
      items =
          items;
      at = at;
      format = Short;
      leads = leads;
      halts = halts;
      count_is = refl;
      depth_is = refl;
    }

frame_good : (machine : Machine) → GoodFrame screen machine example_frame example_list 20000 7 1
unfolding cell_at instruction_of
frame_good machine =
    accepted machine example_frame example_list (call_item ∷ labs_item ∷ []) 3 (grind (arith)) (grind (arith))
    (((tt, λ why. grind (arith, ints)), λ why. grind (arith, ints)), λ why. grind (arith, ints))

-- ---- all

pub worked_example : (machine : Machine) → WorkedExample machine
worked_example machine =
    record {
      memory = grind (arith, length-replicate);
      certificate = grind (arith);
      shapes = shapes_good machine Bound;
      exact = shapes_good machine Exact;
      frame = frame_good machine;
    }
