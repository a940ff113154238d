-- What holds of each element of a list.
use Rattle.dvg_items.proofs.Common.{arith, List, subst, zero, suc, refl, ◌∷◌, ◌++◌, [], AllByRecursion, Contains}

pub all_append : {A : Type 0} (P : A → Type 0) (xs ys : List A) → AllByRecursion P xs → AllByRecursion P ys → AllByRecursion P (xs ++ ys)
all_append P [] ys a b = b
all_append P (x ∷ xs) ys a b = (a.0, all_append P xs ys a.1 b)

pub all_left : {A : Type 0} (P : A → Type 0) (xs ys : List A) → AllByRecursion P (xs ++ ys) → AllByRecursion P xs
all_left P [] ys a = tt
all_left P (x ∷ xs) ys a = (a.0, all_left P xs ys a.1)

pub all_right : {A : Type 0} (P : A → Type 0) (xs ys : List A) → AllByRecursion P (xs ++ ys) → AllByRecursion P ys
all_right P [] ys a = a
all_right P (x ∷ xs) ys a = all_right P xs ys a.1

pub all_map : {A : Type 0} (P Q : A → Type 0) (xs : List A) → ((x : A) → P x → Q x) → AllByRecursion P xs → AllByRecursion Q xs
all_map P Q [] h a = tt
all_map P Q (x ∷ xs) h a = (h x a.0, all_map P Q xs h a.1)

pub at_place : {A : Type 0} (P : A → Type 0) (xs : List A) (x : A) → AllByRecursion P xs → Contains xs x → P x
at_place P [] x all c = absurd (omega (arith, c.1))
at_place P (y ∷ xs) x all (zero, lt, is) = subst P is all.0
at_place P (y ∷ xs) x all (suc k, lt, is) = at_place P xs x all.1 (k, omega (arith, lt), is)

pub all_listed : {A : Type 0} (P : A → Type 0) (xs : List A) → ((x : A) → Contains xs x → P x) → AllByRecursion P xs
all_listed P [] h = tt
all_listed P (x ∷ xs) h = (h x (zero, omega arith, refl), all_listed P xs (λ e c. h e (suc c.0, omega (arith, c.1), c.2)))
