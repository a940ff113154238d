-- Frames of a recipe, by their items.
use Rattle.dvg_recipe.proofs.Common.{◌≡◌, ◌≤◌, ◌∙◌, ℕ, List, [], ◌∷◌, IsTrue, length, reverse, take_all, refl, sym, ap, subst, ⊎_elim, arith, cases_lt, LeadsTo, cell_at}
use Rattle.dvg_words.specs.declared.machine.Machine.TheVariants.{Board}
use Rattle.dvg_words.specs.declared.instruction.Instr.TheVariants.{Halt}
use Rattle.dvg_words.specs.declared.instruction.Cell.TheVariants.{Holds}
use Rattle.dvg_words.specs.Memory.{Rom, IsFrame, frame_word}
use Rattle.dvg_items.specs.declared.item.Item.{Item}
use Rattle.dvg_items.specs.declared.item.Kind.TheVariants.{Frame}
use Rattle.dvg_items.proofs.Leading.{same_lead, too_long}
use Rattle.dvg_recipe.specs.Recipes.{Recipe, SpellsList}
use Rattle.dvg_recipe.specs.Members.{IsMember, LeadsInto}
use Rattle.dvg_recipe.specs.Private.KnownPlaces.{ItemsOver}
use Rattle.dvg_recipe.specs.Private.FrameItems.{FrameItems, AreItems}
use Rattle.dvg_recipe.specs.Private.Indices.{RecipeLeads}
use Rattle.dvg_recipe.proofs.Fronts.{front, recipe_there, recipe_back}

module _ (rom : Rom) (words : List ℕ) (all : FrameItems) (are : AreItems words all) where
  abbrev listed : List Item
  listed = all.items.items

  abbrev over : ItemsOver
  over = record { rom = rom; items = listed }

  abbrev whole : List Item
  whole = reverse listed

  front_whole : front over (length listed) ≡ whole
  front_whole = ap (λ (l : List Item). reverse l) (take_all (length listed) listed (omega arith))

  no_longer : (earlier : List Item) (q : ℕ) → LeadsTo Frame (frame_word Board words) 0 earlier q → length earlier ≤ length whole
  no_longer [] q h = omega arith
  no_longer (j ∷ earlier) q h =
      grind (
        arith,
        (no_longer earlier j.at h.0),
        (same_lead Frame (frame_word Board words) 0 earlier whole j.at all.end h.0 are.leads),
        (are.last j.format j.instr),
      )

  module _ (recipe : Recipe) where
    pub belongs_if : IsFrame words → IsTrue all.halts → RecipeLeads recipe over (length listed) → IsMember rom recipe words
    belongs_if frame halts leads =
        let halt = are.halts.0 halts in
        record {
          frame = frame;
          items = whole;
          at = all.end;
          format = halt.0;
          leads = are.leads;
          halts = halt.1;
          spelled =
              subst (λ (l : List Item). SpellsList (LeadsInto rom) recipe l) front_whole (recipe_there over recipe (length listed) leads);
        }

    pub only_if : IsMember rom recipe words → IsTrue all.halts × RecipeLeads recipe over (length listed)
    only_if b =
        let short = no_longer b.items b.at b.leads in
        let same = same_lead Frame (frame_word Board words) 0 b.items whole b.at all.end b.leads are.leads
        (⊎_elim (λ less. absurd (too_long Frame (frame_word Board words) 0 b.items
        (record { at = b.at; format = b.format; instr = Halt }) b.leads b.halts refl whole all.end are.leads less))
        (λ le. omega (arith, short, le)) (cases_lt (length b.items) (length whole))) in (
          are.halts.1 (b.format, subst (λ p. cell_at (frame_word Board words) p ≡ Holds b.format Halt) same.place b.halts),
          recipe_back over recipe b.items (length listed) (omega arith) (same.items ∙ sym front_whole) b.spelled,
        )
