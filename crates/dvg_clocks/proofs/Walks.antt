-- The items that are gone over are those that lead to the last one.
use Rattle.dvg_clocks.proofs.Common.{◌≡◌, ℕ, ◌+◌, ◌≤◌, ◌<◌, zero, suc, List, [], ◌∷◌, length, None, Some, refl, sym, ◌∙◌, ap, arith, cell_at, Cell, Holds, Format, Instr, Item, Kind, LeadsTo, next_address, Context, words_before, word_count-some, item_in, items_on, items_past, items_from, IsWhole}
use Rattle.dvg_words.specs.Values.{Source}
use Rattle.dvg_items.specs.Items.{AtEachOf}
use Rattle.dvg_items.proofs.Leading.{too_long, same_lead, item_same, everywhere}

-- no item is left out of the count of words
pub few_items : (c : Context) (items : List Item) → length items ≤ words_before c items
few_items c [] = omega arith
few_items c (i ∷ items) = omega (arith, few_items c items, word_count-some i.format)

-- an item stands in the cell
abbrev Stands : Cell → Type 0
Stands cell = (format : Format) × (instr : Instr) × (cell ≡ Holds format instr)

module _ (kind : Kind) (source : Source) (first : ℕ) where
  -- there is only one walk to a last item
  pub same_walk : (a b : List Item) (i j : Item) → IsWhole kind source first a i → IsWhole kind source first b j → i ∷ a ≡ j ∷ b
  same_walk a b i j h k =
      let e : length a ≡ length b =
      even (too_long kind source first a i h.lead h.is h.last b j.at k.lead)
      (too_long kind source first b j k.lead k.is k.last a i.at h.lead) in
      let s = same_lead kind source first a b i.at j.at h.lead k.lead e in
      let one : i ≡ j = item_same i j s.place (sym h.is ∙ ap (cell_at source) s.place ∙ k.is) in
      ap (λ x. x ∷ a) one ∙ ap (λ l. j ∷ l) s.items
    where
      even : ((length a < length b) → ⊥) → ((length b < length a) → ⊥) → length a ≡ length b
      even p q = grind (arith)

  each_stands : (items : List Item) (p : ℕ) → LeadsTo kind source first items p → AtEachOf (λ e q. Stands (cell_at source q)) items
  each_stands [] p h = tt
  each_stands (i ∷ items) p h = (each_stands items i.at h.0, (i.format, i.instr, h.1))

  module _ (items : List Item) (i : Item) (whole : IsWhole kind source first items i) where
    there : (earlier : List Item) (p : ℕ) → LeadsTo kind source first earlier p → Stands (cell_at source p)
    there = everywhere kind source first (λ e q. Stands (cell_at source q)) items i whole.lead whole.is whole.last
        (each_stands items i.at whole.lead, (i.format, i.instr, whole.is))

    from : (n : ℕ) (earlier : List Item) (p : ℕ) → LeadsTo kind source first earlier p → length items < length earlier + n
        → items_from kind source n earlier p ≡ i ∷ items
    from zero earlier p lead lt =
        absurd (too_long kind source first items i whole.lead whole.is whole.last earlier p lead (omega (arith, lt)))
    from (suc n) earlier p lead lt =
        let (format, instr, is) = there earlier p lead in
        let j : Item = record { at = p; format = format; instr = instr } in
        let rest =
        (elim (next_address kind j) as (λ o. next_address kind j ≡ o → items_on (items_from kind source n) (j ∷ earlier) o ≡ i ∷ items) [
          | None ↦ λ last. same_walk earlier items j i (record { lead = lead; is = is; last = last }) whole
          | Some q ↦ λ goes. from n (j ∷ earlier) q (lead, is, goes) (omega (arith, lt))
        ])
        refl in
        ap (λ c. items_past kind (items_from kind source n) earlier (item_in p c)) is ∙ rest

    pub all_items : (n : ℕ) → length items < n → items_from kind source n [] first ≡ i ∷ items
    all_items n lt = from n [] first refl (omega (arith, lt))
