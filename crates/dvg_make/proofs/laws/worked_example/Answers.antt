-- The worked example is made.
use Rattle.dvg_make.proofs.Common.{◌≡◌, ℕ, zero, List, [], ◌∷◌, Some, None, refl, ap, subst, inl, arith, screen, cell_at, rom_word, Holds, Entry, Key, At, next_address, shape_context, target, scale_before, Exact, Item, Shape, lit_points, IsLeast, HasEntry, EachItem, MadeEntry, displacement, Profile, example_entry, example_list, all_kept, Made}
use Rattle.dvg_words.specs.Example.{example_rom}
use Rattle.dvg_check.proofs.Example.{draw_item, return_item, draw_there, return_there, worked_example as example_good}
use Rattle.dvg_make.proofs.Ends.{other_window}
use Rattle.dvg_make.proofs.laws.worked_example.Goals as goal
use Rattle.dvg_make.proofs.Merging.{only_listed}

-- ---- its items

module _ (P : List Item → Item → Type 0) where
  -- what holds of the item, if it stands at a place
  abbrev Here : List Item → ℕ → Item → Type 0
  Here earlier p i = i.at ≡ p → cell_at (rom_word example_rom) p ≡ Holds i.format i.instr → P earlier i

  here : (earlier : List Item) (i : Item) → cell_at (rom_word example_rom) i.at ≡ Holds i.format i.instr → P earlier i → (j : Item)
      → Here earlier i.at j
  here earlier i is h j at stands = subst (P earlier) (let same : i ≡ j = grind (arith, at, stands, is) in same) h

  -- what holds of both items holds of each item
  both_items : P [] draw_item → P (draw_item ∷ []) return_item → EachItem example_rom 2048 P
  both_items first last earlier i lead is =
      all_kept Shape (rom_word example_rom) 2048 Item Here (draw_item ∷ []) return_item (refl, draw_there Profile, refl)
      (return_there Profile) refl (
        (tt, here [] draw_item (draw_there Profile) first),
        here (draw_item ∷ []) return_item (return_there Profile) last,
      ) earlier i.at lead i refl is

-- ---- its box

example_least : IsLeast (lit_points (shape_context example_rom.machine example_list example_entry) (return_item ∷ draw_item ∷ []))
    example_entry.lit
unfolding displacement
example_least = grind (arith, lit_points, shape_context, return_item, draw_item)

-- ---- all

example_entry_made : MadeEntry example_rom example_list example_entry
example_entry_made =
    record {
      keeps = λ earlier p lead why w not. other_window Exact example_rom example_list example_entry screen w earlier p why not
          ((example_good Profile).exact example_entry (zero, omega arith, refl) earlier p lead why);
      keyed = both_items (λ earlier i. (to : ℕ) → target Shape i.instr ≡ Some to
          → HasEntry example_list to (scale_before (shape_context example_rom.machine example_list example_entry) earlier))
          (λ to e. cc e) (λ to e. cc e);
      box = both_items (λ earlier i. next_address Shape i ≡ None
          → IsLeast (lit_points (shape_context example_rom.machine example_list example_entry) (i ∷ earlier)) example_entry.lit)
          (λ e. cc e) (λ e. example_least);
    }

-- the stroke at 800 at global scale 0
abbrev example_roots : List (ℕ × Key)
example_roots = (0x800, At 0) ∷ []

example_made : Made example_rom example_roots example_list
example_made =
    record {
      certificate = (example_good Profile).certificate;
      each = λ e c. subst (MadeEntry example_rom example_list) (only_listed example_entry e c) example_entry_made;
      rooted = λ addr key c. subst (λ (r : ℕ × Key). HasEntry example_list r.0 r.1) (only_listed (0x800, At 0) (addr, key) c)
          (example_entry, refl);
      needed = λ f c. inl (zero, omega arith, ap (λ (e : Entry). (e.addr, e.key)) (only_listed example_entry f c));
    }

pub returns : goal.returns
returns c = (example_made, grind (arith))
