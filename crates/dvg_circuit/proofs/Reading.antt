-- What the circuit reads and decodes is what the generator does.
use Rattle.dvg_circuit.proofs.Common.{◌≡◌, ℕ, ◌<◌, nat_le, Some, arith, pos, neg_ℤ, nat_abs, nat_tests, Board, Format, Short, decoded, Instr, opcode, instruction_of, format_of, Memory, IsMemory, fetched_at}
use Rattle.dvg_words.specs.declared.instruction.Instr.TheVariants.{Draw as Draws, Labs, Jsrl}
use Rattle.dvg_circuit.specs.Laws.{AllDecoded}
use Rattle.dvg_circuit.proofs.Moves.{AreSizes}

-- ---- instructions

-- what the circuit goes by: sizes of ten bits, a LABS of twelve, a call of one word
abbrev pub IsRight : Format → Instr → Type 0
IsRight format (Draws d) = AreSizes d
IsRight format (Labs x y gscale) = (x < 4096) × (y < 4096)
IsRight format (Jsrl to) = format ≡ Short
IsRight format other = Unit {0}

negated : (n : ℕ) → nat_abs (neg_ℤ (pos n)) ≡ n
negated n = grind (arith)

pub right : (first second : ℕ) (i : Instr) → instruction_of Board first second ≡ Some i → IsRight (format_of first) i
unfolding instruction_of
right first second i e = grind (arith, negated, nat_tests, (nat_le (opcode first) 9), (nat_le (opcode first) 10))

-- ---- word addresses

-- a word that there is stands below FFF
pub low_word : (m : Memory) (p word : ℕ) → IsMemory m → fetched_at m p ≡ Some word → p < 4095
low_word m p word mem e = grind (arith, nat_tests)

pub all_decoded : AllDecoded
unfolding instruction_of
all_decoded first second = (decoded first second, grind (arith))
