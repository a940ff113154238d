-- Which shapes are called by the items with which frames are refused, and the lines that tell how often. All of it is this project's own.
use Rattle.std.specs.Prelude.{ℕ, zero, suc, Bool, true, false, if◌then◌else◌, nat_lt, nat_eq, List, [], ◌∷◌, ◌++◌, length, insert, slice_get, slice_set, Option, None, Some, Err, codes, decimal}
use Rattle.dvg_words.specs.declared.machine.Machine.{Machine}
use Rattle.dvg_words.specs.Decoding.{cell_at}
use Rattle.dvg_words.specs.Memory.{frame_word}
use Rattle.dvg_words.specs.declared.instruction.Cell.TheVariants as cell
use Rattle.dvg_words.specs.declared.instruction.Cell.{Cell}
use Rattle.dvg_words.specs.declared.instruction.Instr.TheVariants.{Jsrl}
use Rattle.dvg_text.specs.Devices.{count_after}
use Rattle.dvg_check.specs.declared.verdict.Refusal.TheVariants.{Frame}
use Rattle.dvg_make.specs.declared.judging.FrameRefusal.TheVariants.{Make, Check}
use Rattle.dvg_spelling.specs.Outcomes.{FrameAnswer}
use Rattle.dvg_spelling.specs.declared.answer.ItemPlace.TheVariants as place
use Rattle.dvg_spelling.specs.declared.answer.Answer.TheVariants.{Judged, Slow}
use Rattle.dvg_spelling.specs.Each.{of_each}
pub use Rattle.dvg_cmd.specs.declared.called.Called.{Called}
pub use Rattle.dvg_cmd.specs.declared.called.CalledCount.{CalledCount}

-- the word address of the item because of which a frame is refused
abbrev pub refused_at : FrameAnswer → Option ℕ
refused_at (Judged (Err (Make at why))) = Some at
refused_at (Judged (Err (Check (Frame fault)))) = Some fault.word
refused_at (Slow (place.Frame at)) = Some at
refused_at answer = None

-- the shape that an item calls, if it is a call
abbrev pub shape_called : Cell → Option ℕ
shape_called (cell.Holds format (Jsrl to)) = Some to
shape_called there = None

-- the shape that the item calls because of which a frame of these words is refused
abbrev pub called_at : Machine → List ℕ → Option ℕ → Option ℕ
called_at machine words None = None
called_at machine words (Some at) = shape_called (cell_at (frame_word machine words) at)

abbrev pub called_by : Machine → List ℕ → FrameAnswer → Option ℕ
called_by machine words answer = called_at machine words (refused_at answer)

-- whether a count comes before that of a number and a shape: by its number, and then by its shape
abbrev pub is_before : CalledCount → ℕ → ℕ → Bool
is_before c number shape =
    if nat_lt c.called.number number then true
    else if nat_eq c.called.number number then nat_lt c.called.shape shape else false

-- how many counts come before it
abbrev pub place_in : List CalledCount → ℕ → ℕ → ℕ
place_in [] number shape = zero
place_in (c ∷ rest) number shape = if is_before c number shape then suc (place_in rest number shape) else zero

-- a count of its own at a place, if there is room: 64 are kept
abbrev pub added_at : List CalledCount → ℕ → Called → List CalledCount
added_at counts at c = if nat_lt (length counts) 64 then insert counts at (record { called = c; count = 1 }) else counts

-- whether there is a count of this number and shape at a place
abbrev pub is_of : Called → Option CalledCount → Bool
is_of c None = false
is_of c (Some there) = if nat_eq there.called.number c.number then nat_eq there.called.shape c.shape else false

abbrev pub is_counted : List CalledCount → ℕ → Called → Bool
is_counted counts at c = is_of c (slice_get counts at)

-- one more of what is there; it stops at the greatest u32
abbrev pub again : List CalledCount → ℕ → Option CalledCount → List CalledCount
again counts at None = counts
again counts at (Some there) = slice_set counts at (record there { count = count_after true there.count })

abbrev pub again_at : List CalledCount → ℕ → List CalledCount
again_at counts at = again counts at (slice_get counts at)

-- with a frame that is refused so
abbrev pub with_called : List CalledCount → Called → List CalledCount
with_called counts c =
    if is_counted counts (place_in counts c.number c.shape) c
    then again_at counts (place_in counts c.number c.shape)
    else added_at counts (place_in counts c.number c.shape) c

-- the line of a count
abbrev pub called_text : CalledCount → List ℕ
called_text c =
    codes "refused-" ++ decimal c.called.number ++ codes "=" ++ decimal c.count ++ codes " calling " ++ c.called.name.items ++ codes "\n"

-- those of several
abbrev pub called_texts : List CalledCount → List (List ℕ)
called_texts counts = of_each called_text counts
