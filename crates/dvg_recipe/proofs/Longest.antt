-- The longest list of a recipe: the smallest of areas.
use Rattle.dvg_recipe.proofs.Common.{◌≡◌, ◌<◌, ◌≤◌, ◌+◌, ◌-◌, ◌↔◌, ℕ, suc, List, Contains, length, take, get_or, arith}
use Rattle.dvg_recipe.specs.Recipes.{Area}
use Rattle.dvg_recipe.specs.Lengths.{HasRoom, HaveRoom}
use Rattle.dvg_recipe.proofs.Fitting.{each_next}

-- the words of the area
abbrev area_words : Area → ℕ
area_words area = area.last + 1 - area.first

-- none of the areas has fewer words
pub record AreNoSmaller (least : Area) (areas : List Area) : Type 0 where
  pub each : (area : Area) → Contains areas area → area_words least ≤ area_words area

module _ (areas : List Area) (i n : ℕ) (d : Area) (next : n ≡ suc i) (lt : i < length areas) (least : Area)
    (before : AreNoSmaller least (take i areas)) where
  pub smallest_same : area_words least ≤ area_words (get_or areas i d) → AreNoSmaller least (take n areas)
  smallest_same le = record { each = each_next (λ (a : Area). area_words least ≤ area_words a) areas i n d next lt before.each le }

  pub smallest_new : area_words (get_or areas i d) < area_words least → AreNoSmaller (get_or areas i d) (take n areas)
  smallest_new less =
      record {
        each = each_next (λ (a : Area). area_words (get_or areas i d) ≤ area_words a) areas i n d next lt
            (λ a there. omega (arith, less, before.each a there))
            (omega arith);
      }

pub smallest_is : (areas : List Area) (least : Area) → Contains areas least → AreNoSmaller least areas → (n : ℕ)
    → HasRoom least n ↔ HaveRoom areas n
smallest_is areas least listed none n =
    (λ room. record { each = λ area there. omega (arith, room, none.each area there) }, λ have. have.each least listed)
