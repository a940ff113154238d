-- Who may write while a run goes on: whoever writes only words that the run doesn't fetch.
use Rattle.std.specs.Prelude.{◌≡◌, ℕ, Some}
use Rattle.std.specs.List.{AllByRecursion}
use Rattle.dvg_words.specs.Memory.{Memory, word_at}
use Rattle.dvg_circuit.specs.Circuit.{Reads, Run, run_after}
use Rattle.dvg_circuit.specs.Premises.{ReadsAs}

-- these reads have each word of the frame and of the ROM
abbrev pub HasWords : Memory → Reads → Type 0
HasWords m still = (p word : ℕ) → (word_at m).word p ≡ Some word → still p ≡ word

-- each word that the run over a still memory fetches reads the same at every instruction
abbrev pub LeavesFetched : (ℕ → Reads) → Reads → Run → Type 0
LeavesFetched reads still r = (k : ℕ) → AllByRecursion (λ p. (n : ℕ) → reads n p ≡ still p) (run_after (λ n. still) k r).fetched

-- whoever leaves these words alone leaves the run as it is, and it reads the words of the frame and of the ROM
abbrev pub WritesElsewhere : Type 0
WritesElsewhere =
    (m : Memory) (reads : ℕ → Reads) (still : Reads) (r : Run)
    → HasWords m still → LeavesFetched reads still r
    → ((n : ℕ) → run_after reads n r ≡ run_after (λ n. still) n r) × ReadsAs m reads r
