-- The items of a shape or of a frame are determined, so a walk to the last one has met them all.
use Rattle.dvg_items.proofs.Common.{List, length, refl, sym, arith, None, subst, ◌≡◌, ◌<◌, ◌∷◌, ◌∙◌, ℕ, [], cell_at, Item, Kind, LeadsTo, next_address, AtEveryPlace, AtEachOf}
use Rattle.dvg_words.specs.Values.{Source}
use Rattle.dvg_items.specs.Items.{Stand}
use Rattle.dvg_words.specs.declared.instruction.Cell.TheVariants.{Holds}

pub record Same (a b : List Item) (p q : ℕ) : Type 0 where
  pub items : a ≡ b
  pub place : p ≡ q

pub item_same : (i j : Item) → i.at ≡ j.at → Holds i.format i.instr ≡ Holds j.format j.instr → i ≡ j
item_same i j a e = grind (arith)

module _ (kind : Kind) (word : Source) (first : ℕ) where
  pub stand_before : (items : List Item) (p : ℕ) → LeadsTo kind word first items p → Stand kind word first items
  stand_before items p h = grind (arith)

  -- as many items lead to one place
  pub same_lead : (a b : List Item) (p q : ℕ) → LeadsTo kind word first a p → LeadsTo kind word first b q → length a ≡ length b
      → Same a b p q
  same_lead [] [] p q h k e = record { items = refl; place = h ∙ sym k }
  same_lead [] (j ∷ b) p q h k e = absurd (omega arith)
  same_lead (i ∷ a) [] p q h k e = absurd (omega arith)
  same_lead (i ∷ a) (j ∷ b) p q h k e = grind (arith, (same_lead a b i.at j.at h.0 k.0 (omega arith)), item_same)

  -- nothing leads past a last item
  pub too_long : (items : List Item) (i : Item) → LeadsTo kind word first items i.at → cell_at word i.at ≡ Holds i.format i.instr
      → next_address kind i ≡ None → (earlier : List Item) (q : ℕ) → LeadsTo kind word first earlier q → length items < length earlier → ⊥
  too_long items i lead is last [] q h lt = omega arith
  too_long items i lead is last (j ∷ earlier) q h lt =
      grind (arith, (too_long items i lead is last earlier j.at h.0), (same_lead earlier items j.at i.at h.0 lead), (item_same j i))

  module _ (P : List Item → ℕ → Type 0) where
    pub here_same : (a b : List Item) (p q : ℕ) → Same a b p q → P b q → P a p
    here_same a b p q s h = subst (λ x. P x p) (sym s.items) (subst (λ x. P b x) (sym s.place) h)

    pub shorter : (items : List Item) (p : ℕ) → LeadsTo kind word first items p → AtEachOf P items → (earlier : List Item) (q : ℕ)
        → LeadsTo kind word first earlier q → length earlier < length items → P earlier q
    shorter [] p lead kept earlier q h lt = absurd (omega arith)
    shorter (i ∷ items) p lead kept earlier q h lt =
        grind (arith, (shorter items i.at lead.0 kept.0 earlier q h), (same_lead earlier items q i.at h lead.0), here_same)

    -- what holds at each item of a walk to the last one holds everywhere
    pub everywhere : (items : List Item) (i : Item) → LeadsTo kind word first items i.at → cell_at word i.at ≡ Holds i.format i.instr
        → next_address kind i ≡ None → AtEachOf P (i ∷ items) → AtEveryPlace kind word first P
    everywhere items i lead is last kept earlier q h =
        grind (
          arith,
          (shorter items i.at lead kept.0 earlier q h),
          (too_long items i lead is last earlier q h),
          (same_lead earlier items q i.at h lead),
          here_same,
        )
