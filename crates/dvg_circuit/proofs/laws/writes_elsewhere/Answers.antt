use Rattle.dvg_circuit.proofs.Common.{◌≡◌, ℕ, zero, suc, List, [], ◌∷◌, ◌++◌, refl, arith, AllByRecursion, Reads, Run, step, run_after}
use Rattle.dvg_circuit.specs.Writing.{LeavesFetched}
use Rattle.dvg_circuit.proofs.Following.{all_map}
use Rattle.dvg_circuit.proofs.laws.writes_elsewhere.Goals as goal

all_right : {A : Type 0} (P : A → Type 0) (xs ys : List A) → AllByRecursion P (xs ++ ys) → AllByRecursion P ys
all_right P [] ys a = a
all_right P (x ∷ xs) ys a = all_right P xs ys a.1

alike_step : (reads : ℕ → Reads) (still : Reads) (n : ℕ) (r : Run)
    → AllByRecursion (λ p. (k : ℕ) → reads k p ≡ still p) (step still r).fetched → step (reads n) r ≡ step still r
alike_step reads still n r h = grind (arith, all_right)

alike_run : (reads : ℕ → Reads) (still : Reads) (r : Run) → LeavesFetched reads still r → (n : ℕ)
    → run_after reads n r ≡ run_after (λ k. still) n r
alike_run reads still r leaves zero = refl
alike_run reads still r leaves (suc n) = grind (arith, (alike_run reads still r leaves n), alike_step, (leaves (suc n)))

pub returns : goal.returns
returns c m reads still r has leaves = (
  alike_run reads still r leaves,
  λ n going. grind (arith, (alike_run reads still r leaves n), (leaves (suc n)), all_right, all_map),
)
