-- The word that a start puts in.
use Rattle.dvg_cmd.proofs.Common.{◌≡◌, ◌+◌, ◌*◌, ◌/◌, ◌%◌, ◌<◌, ℕ, Option, Some, arith, opcode, instruction_of, cell_at, cell_of_words, Machine}
use Rattle.dvg_words.specs.Decoding.{target_of}
use Rattle.dvg_words.specs.declared.instruction.Cell.TheVariants.{Holds}
use Rattle.dvg_words.specs.declared.instruction.Format.TheVariants.{Short}
use Rattle.dvg_words.specs.declared.instruction.Instr.TheVariants.{Jmpl}
use Rattle.dvg_cmd.proofs.laws.start_is_jump.Goals as goal

jump_word : (addr : ℕ) → addr < 4096 → (opcode (addr % 256 + 256 * (224 + addr / 256 % 16)) ≡ 14)
    × (target_of (addr % 256 + 256 * (224 + addr / 256 % 16)) ≡ addr)
jump_word addr few = (omega arith, omega arith)

jump_cell : (machine : Machine) (first : ℕ) (second : Option ℕ) (to : ℕ) → opcode first ≡ 14 → target_of first ≡ to
    → cell_of_words machine (Some first) second ≡ Holds Short (Jmpl to)
unfolding instruction_of
jump_cell machine first second to op target = simp (op, target)

pub returns : goal.returns
unfolding cell_at
returns c = λ machine addr h2 few some. grind (arith, jump_cell, jump_word)
