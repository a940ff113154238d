-- The circuit follows the generator, instruction by instruction.
use Rattle.dvg_circuit.proofs.Common.{false, ◌≡◌, ℕ, zero, suc, ◌+◌, ◌%◌, ◌<◌, ◌≤◌, List, [], ◌∷◌, ◌++◌, length, reverse, Option, Some, None, nat_le, refl, ap, sym, subst, ◌∙◌, arith, pos, negsuc, ◌*ℤ◌, slice_set, AllByRecursion, AllZip, cases_lt, cases_eq, true, nat_tests, Board, Format, Short, Long, Instr, signed_field, word_count, format_of, instruction_of, cell_holding, long_cell, cell_of_words, cell_at, Memory, IsMemory, fetched_at, State, Status, Running, Reached, generator_places, fetches, after_instruction, after_cell, next_status, start, Reads, Run, past, places, decoded, performed, act, step, run_after, begin, IsRead, ReadsNow, ReadsAs, IsSamePlace, AreStored, Agrees, AgreesWith, CircuitFollows}
use Rattle.std.proofs.lemmas.List.{append-nil, reverse-append, get_or-set_same, get_or-set_other, length-set}
use Rattle.dvg_circuit.proofs.Moves.{beam_moved, drawn_as}
use Rattle.dvg_circuit.proofs.Reading.{IsRight, right, low_word}

-- ---- stored places

stays_stored : (base : ℕ) (returns : List ℕ) (p n : ℕ) (stack : List ℕ) → length stack ≤ n → n < 4 → AreStored base returns stack
    → AreStored base (slice_set returns ((base + suc n) % 4) p) stack
stays_stored base returns p n [] le few h = tt
stays_stored base returns p n (back ∷ rest) le few h =
    grind (arith, get_or-set_other, (stays_stored base returns p n rest (omega (arith, le)) few h.1))

-- ---- lists

all_append : {A : Type 0} (P : A → Type 0) (xs ys : List A) → AllByRecursion P xs → AllByRecursion P ys → AllByRecursion P (xs ++ ys)
all_append P [] ys a b = b
all_append P (x ∷ xs) ys a b = (a.0, all_append P xs ys a.1 b)

-- ---- words fetched, and draws lit

fetched_more : (f : Format) (p q : ℕ) (xs ys : List ℕ) → p ≡ q → q + word_count f < 4096 → xs ≡ reverse ys
    → xs ++ places f p ≡ reverse (generator_places f q ++ ys)
fetched_more f p q xs ys e low same = grind (arith, reverse, reverse-append)

pub all_reversed : {A : Type 0} (P : A → Type 0) (xs : List A) → AllByRecursion P xs → AllByRecursion P (reverse xs)
all_reversed P [] h = tt
all_reversed P (x ∷ xs) h =
    subst (AllByRecursion P) (sym (reverse-append (x ∷ []) xs)) (all_append P (reverse xs) (x ∷ []) (all_reversed P xs h.1) (h.0, tt))

pub all_map : {A : Type 0} (P Q : A → Type 0) (xs : List A) → ((x : A) → P x → Q x) → AllByRecursion P xs → AllByRecursion Q xs
all_map P Q [] h a = tt
all_map P Q (x ∷ xs) h a = (h x a.0, all_map P Q xs h a.1)

zip_push : {A B : Type 0} (R : A → B → Type 0) (xs : List A) (ys : List B) (x : A) (y : B) → AllZip R xs ys → R x y
    → AllZip R (xs ++ x ∷ []) (ys ++ y ∷ [])
zip_push R [] [] x y all one = (one, tt)
zip_push R (k ∷ xs) (l ∷ ys) x y all one = (all.0, zip_push R xs ys x y all.1 one)
zip_push R xs ys x y all one = grind (arith)

-- ---- each instruction

-- the generator's state once an instruction is fetched
abbrev fetched_state : Format → State → State
fetched_state f s = record s { fetched = generator_places f s.pc ++ s.fetched }

labs_same : (x y : ℕ) → x < 4096 → y < 4096
    → IsSamePlace (record { x = pos 1024 *ℤ signed_field x; y = pos 1024 *ℤ signed_field y }) (record { x = x; y = y })
labs_same x y a b = grind (arith, nat_le, nat_tests, pos, negsuc, cases_lt)

agree_instr : (base : ℕ) (i : Instr) (f : Format) (s : State) (r : Run)
    → IsRight f i → r.circuit.halted ≡ false → Agrees base s r → s.pc + word_count f < 4096
    → AgreesWith base (after_instruction Board i f (fetched_state f s)) (performed i f r)
agree_instr base i f s r fits going h low =
    grind (
      arith,
      beam_moved,
      fetched_more,
      append-nil,
      reverse-append,
      zip_push,
      reverse,
      drawn_as,
      labs_same,
      nat_tests,
      get_or-set_same,
      stays_stored,
      length-set,
    )

-- ---- an instruction that is fetched

agree_holding : (base : ℕ) (one : Option Instr) (f : Format) (first second read : ℕ) (s : State) (r : Run)
    → instruction_of Board first second ≡ one → read ≡ second → format_of first ≡ f → r.circuit.halted ≡ false → Agrees base s r
    → s.pc + word_count f < 4096
    → AgreesWith base (after_cell Board (cell_holding f one) (fetched_state f s)) (performed (decoded first read) f r)
agree_holding base one f first second read s r e heard is going h low = grind (arith, agree_instr, right)

agree_long : (m : Memory) (base first : ℕ) (second : Option ℕ) (reads : Reads) (s : State) (r : Run)
    → IsMemory m → fetched_at m (s.pc + 1) ≡ second → format_of first ≡ Long → IsRead m reads (past Short r.circuit.pc)
    → r.circuit.halted ≡ false → Agrees base s r
    → s.pc + 1 < 4096
    → AgreesWith base (after_cell Board (long_cell Board first second) (fetched_state Long s))
    (performed (decoded first (reads (past Short r.circuit.pc))) Long r)
agree_long m base first None reads s r mem e is seen going h low = tt
agree_long m base first (Some second) reads s r mem e is seen going h low =
    let behind : past Short r.circuit.pc ≡ s.pc + 1 = omega (arith, h.pc, low) in
    agree_holding base _ Long first second _ s r refl (seen second (ap (fetched_at m) behind ∙ e)) is going h
    (let room = low_word m (s.pc + 1) second mem e in omega (arith, room))

agree_first : (m : Memory) (base : ℕ) (first : Option ℕ) (reads : Reads) (s : State) (r : Run)
    → IsMemory m → fetched_at m s.pc ≡ first → ReadsNow m reads r → r.circuit.halted ≡ false → Agrees base s r
    → AgreesWith base (after_cell Board (cell_of_words Board first (fetched_at m (s.pc + 1)))
    (record s { fetched = fetches first s.pc ++ s.fetched }))
    (act reads (reads r.circuit.pc) r)
agree_first m base None reads s r mem e seen going h = tt
agree_first m base (Some first) reads s r mem e seen going h = grind (arith, agree_holding, agree_long, (low_word m s.pc first mem e))

agree_step : (m : Memory) (base : ℕ) (reads : Reads) (s : State) (r : Run)
    → IsMemory m → m.rom.machine ≡ Board → ReadsNow m reads r → r.circuit.halted ≡ false → Agrees base s r
    → AgreesWith base (next_status m s) (step reads r)
unfolding next_status cell_at
agree_step m base reads s r mem board seen going h = grind (arith, agree_first)

-- ---- runs

agree_on : (m : Memory) (base k n all : ℕ) (reads : ℕ → Reads) (r : Run) (mid after : Status)
    → IsMemory m → m.rom.machine ≡ Board → ReadsAs m reads r → all ≡ k + n → AgreesWith base mid (run_after reads k r)
    → Reached m n mid after
    → AgreesWith base after (run_after reads all r)
agree_on m base k zero all reads r mid after mem board seen same h reached = grind (arith)
agree_on m base k (suc n) all reads r mid after mem board seen same h reached =
    grind (arith, (agree_on m base (suc k) n all reads r), agree_step)

pub circuit_follows : CircuitFollows
circuit_follows m reads c place steps after mem board begun seen same reached =
    let begins : AgreesWith c.pointer (Running (start place c.scale)) (begin c) = grind (arith, start, begin) in
    agree_on m c.pointer 0 steps steps reads (begin c) (Running (start place c.scale)) after mem board seen (omega arith) begins reached

-- more instructions after a halt at the fifth change nothing
pub after_halt : (reads : ℕ → Reads) (r : Run) (n : ℕ) → (run_after reads 5 r).circuit.halted ≡ true → 5 ≤ n
    → run_after reads n r ≡ run_after reads 5 r
after_halt reads r zero h le = grind (arith)
after_halt reads r (suc n) h le = grind (arith, (after_halt reads r n h), (cases_eq 5 (suc n)))
