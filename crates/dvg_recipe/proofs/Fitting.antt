-- The limits of recipes.
use Rattle.dvg_recipe.proofs.Common.{◌≡◌, ◌<◌, ◌≤◌, ◌∙◌, ◌↔◌, ℕ, suc, List, [], ◌∷◌, Contains, length, take, drop, get_or, refl, sym, ap, subst, ⊎_elim, arith, take-suc, take_all, Contains-push_cases, Contains-get_or, Bool, false, IsTrue, nat_tests}
use Rattle.std.proofs.Common.{drop-cons}
use Rattle.dvg_recipe.specs.Recipes.{Area, Piece, Part, Jump, Row, Then', Either', Repeat'}
use Rattle.dvg_recipe.specs.Limits.{RowNumbered, Numbered, AreasFit, JumpFits, JumpsFit}

-- ---- numbers are determined

row_once : (row : List Piece) (n k l : ℕ) → RowNumbered row n k → RowNumbered row n l → k ≡ l
row_once [] n k l h g = h ∙ sym g
row_once (piece ∷ row) n k l h g = row_once row (suc n) k l h.2 g.2

pub numbered_once : (part : Part) (n k l : ℕ) → Numbered part n k → Numbered part n l → k ≡ l
numbered_once (Row row) n k l h g = row_once row.items n k l h g
numbered_once (Then' p a q b) n k l (i, h, h') (j, g, g') =
    numbered_once b i k l h' (subst (λ m. Numbered b m l) (sym (numbered_once a n i j h g)) g')
numbered_once (Either' p a q b) n k l (i, h, h') (j, g, g') =
    numbered_once b i k l h' (subst (λ m. Numbered b m l) (sym (numbered_once a n i j h g)) g')
numbered_once (Repeat' least most p body) n k l h g = numbered_once body n k l h g

pub areas_once : (areas : List Area) (n k l : ℕ) → AreasFit areas n k → AreasFit areas n l → k ≡ l
areas_once [] n k l h g = h ∙ sym g
areas_once (area ∷ areas) n k l h g = areas_once areas (suc area.last) k l h.1 g.1

pub jumps_once : (jumps : List Jump) (word n k l : ℕ) → JumpsFit jumps word n k → JumpsFit jumps word n l → k ≡ l
jumps_once [] word n k l h g = h ∙ sym g
jumps_once (jump ∷ jumps) word n k l (i, fits, h, h') (j, other, g, g') =
    jumps_once jumps (suc jump.area.last) i k l h'
    (subst (λ m. JumpsFit jumps (suc jump.area.last) m l) (sym (numbered_once jump.body (suc n) i j h g)) g')

-- ---- what holds of the first elements, and of the next one

module _ {A : Type 0} (P : A → Type 0) (xs : List A) where
  pub each_next : (i n : ℕ) (d : A) → n ≡ suc i → i < length xs → ((x : A) → Contains (take i xs) x → P x) → P (get_or xs i d) → (x : A)
      → Contains (take n xs) x → P x
  each_next i n d is lt h new x there =
      ⊎_elim (h x) (λ same. subst P same new)
      (Contains-push_cases (take i xs) (get_or xs i d) x
      (subst (λ (l : List A). Contains l x) (take-suc xs i d lt) (subst (λ m. Contains (take m xs) x) is there)))

  pub each_of_all : (i : ℕ) → length xs ≤ i → ((x : A) → Contains (take i xs) x → P x) → (x : A) → Contains xs x → P x
  each_of_all i le h x there = h x (subst (λ (l : List A). Contains l x) (sym (take_all i xs le)) there)

  pub not_each : (i : ℕ) (d : A) → i < length xs → (P (get_or xs i d) → ⊥) → ((x : A) → Contains xs x → P x) → ⊥
  not_each i d lt not h = not (h (get_or xs i d) (Contains-get_or xs i d lt))

-- ---- tests

pub untrue : (b : Bool) → b ≡ false → IsTrue b → ⊥
untrue b is not = grind (arith, nat_tests)

pub never : (P : Type 0) → (P → ⊥) → IsTrue false ↔ P
never P not = (λ yes. absurd (untrue false refl yes), λ h. absurd (not h))

-- ---- jumps that are left

module _ (jumps : List Jump) (i n : ℕ) (jump : Jump) (is : jump ≡ get_or jumps i jump) (next : n ≡ suc i) (lt : i < length jumps) where
  left : drop i jumps ≡ jump ∷ drop n jumps
  left = drop-cons jumps i jump lt ∙ ap (λ (x : Jump). x ∷ drop (suc i) jumps) (sym is) ∙ ap (λ m. jump ∷ drop m jumps) (sym next)

  pub jumps_left : (word number first k then m : ℕ) → JumpFits jump word number → first ≡ suc number → Numbered jump.body first k
      → then ≡ suc jump.area.last → JumpsFit (drop i jumps) word number m ↔ JumpsFit (drop n jumps) then k m
  jumps_left word number first k then m fits number_next numbered word_next = (
    λ h. let (j, other, g, rest) = subst (λ (l : List Jump). JumpsFit l word number m) left h in
        subst (λ w. JumpsFit (drop n jumps) w k m) (sym word_next)
        (subst (λ l. JumpsFit (drop n jumps) (suc jump.area.last) l m)
        (numbered_once jump.body (suc number) j k g (subst (λ l. Numbered jump.body l k) number_next numbered)) rest),
    λ h. subst (λ (l : List Jump). JumpsFit l word number m) (sym left)
        (k, fits, subst (λ l. Numbered jump.body l k) number_next numbered, subst (λ w. JumpsFit (drop n jumps) w k m) word_next h),
  )
