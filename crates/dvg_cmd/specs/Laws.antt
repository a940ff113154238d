-- The law of a start, over the definitions alone.
use Rattle.std.specs.Prelude.{◌≡◌, ◌<◌, ◌≤◌, ℕ, List, length}
use Rattle.dvg_words.specs.Decoding.{cell_at}
use Rattle.dvg_words.specs.declared.machine.Machine.{Machine}
use Rattle.dvg_words.specs.Memory.{words_of, frame_word}
use Rattle.dvg_words.specs.declared.instruction.Cell.TheVariants.{Holds}
use Rattle.dvg_words.specs.declared.instruction.Format.TheVariants.{Short}
use Rattle.dvg_words.specs.declared.instruction.Instr.TheVariants.{Jmpl}
use Rattle.dvg_words.specs.declared.map.TheConstants.{ADDRESS_END}
use Rattle.dvg_cmd.specs.Start.{jumped}

-- word 000 of a frame with the jump to a word address is the JMPL to that address, on each machine
abbrev pub StartIsJump : Type 0
StartIsJump =
    (machine : Machine) (addr : ℕ) (bytes : List ℕ) → addr < ADDRESS_END → 2 ≤ length bytes
    → cell_at (frame_word machine (words_of (jumped addr bytes))) 0 ≡ Holds Short (Jmpl addr)
