use Rattle.dvg_cmd.proofs.Common.{◌≡◌, take, words_of, of_each, AreFrames}
use Rattle.dvg_cmd.proofs.inputs.frame_images.Given as goal

abbrev pub invariant-loop-frame : goal.invariant-loop-frame
invariant-loop-frame l =
    AreFrames (of_each (λ bytes. bytes.items) (take l.frame l.read))
    × (l.images.items ≡ of_each words_of (of_each (λ bytes. bytes.items) (take l.frame l.read)))
