-- All items from a place on are determined, and so are the calls among them.
use Rattle.dvg_survey.proofs.Common.{Source, ◌≡◌, ℕ, ◌<◌, ◌≤◌, List, [], ◌∷◌, length, sym, subst, arith, ⊎_elim, cases_lt, cell_at, Item, Stand, AreAll, Kind, item_same, same_lead, stand_before}

module _ (kind : Kind) (word : Source) (first : ℕ) where
  -- as many items that stand are the same
  pub same_stand : (a b : List Item) → Stand kind word first a → Stand kind word first b → length a ≡ length b → a ≡ b
  same_stand a b h k e = grind (arith, same_lead, item_same, cell_at)

  -- no more stand than all
  pub no_more : (a : List Item) → AreAll kind word first a → (b : List Item) → Stand kind word first b → length a < length b → ⊥
  no_more a all [] k lt = omega (arith, lt)
  no_more a all (j ∷ b) k lt =
      grind (
        arith,
        (no_more a all b (stand_before kind word first b j.at k.0)),
        (all.last j),
        (same_stand a b all.stand (stand_before kind word first b j.at k.0)),
      )

  -- what all items keep, those up to any item that stands keep
  within : (P : List Item → Type 0) → ((i : Item) (rest : List Item) → P (i ∷ rest) → P rest) → (a b : List Item)
      → Stand kind word first a → Stand kind word first b → length b ≤ length a → P a → P b
  within P less [] b h k le p = subst P (sym (same_stand b [] k h (omega (arith, le)))) p
  within P less (i ∷ a) b h k le p =
      ⊎_elim
      (λ lt. within P less a b (stand_before kind word first a i.at h.0) k (omega (arith, lt)) (less i a p))
      (λ ge. subst P (sym (same_stand b (i ∷ a) k h (omega (arith, le, ge)))) p)
      (cases_lt (length b) (length (i ∷ a)))

  pub up_to : (P : List Item → Type 0) → ((i : Item) (rest : List Item) → P (i ∷ rest) → P rest) → (a : List Item)
      → AreAll kind word first a → P a → (b : List Item) → Stand kind word first b → P b
  up_to P less a all p b k =
      within P less a b all.stand k (⊎_elim (λ lt. absurd (no_more a all b k lt)) (λ le. le) (cases_lt (length a) (length b))) p

  pub one_all : (a b : List Item) → AreAll kind word first a → AreAll kind word first b → a ≡ b
  one_all a b h k = grind (arith, no_more, same_stand, cases_lt)
