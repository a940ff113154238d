-- Items that call nothing.
use Rattle.std.specs.Prelude.{◌≡◌, ℕ, List, [], ◌∷◌, Option, Some, None, false, is_some, refl}
use Rattle.dvg_words.specs.Memory.{Rom, rom_word}
use Rattle.dvg_words.specs.declared.instruction.Format.{Format}
use Rattle.dvg_words.specs.declared.instruction.Instr.{Instr}
use Rattle.dvg_items.proofs.Leading.{everywhere}
use Rattle.dvg_make.proofs.Common.{arith, sym, subst, ◌∙◌, Entry, Item, Shape, LeadsTo, Holds, cell_at, target, next_address, AtEachOf}
use Rattle.dvg_kept.specs.Private.Leaves.{IsLeaf}
use Rattle.dvg_kept.specs.Private.Marks.{AllAskedMarked, Marks, shape_start}

module _ (rom : Rom) (addr : ℕ) where
  abbrev NoneAt : List Item → ℕ → Type 0
  NoneAt earlier p = (f : Format) (j : Instr) → cell_at (rom_word rom) p ≡ Holds f j → target Shape j ≡ None

  -- how the loop stands, before the item that is here
  pub record Straight (at : ℕ) : Type 0 where
    pub items : List Item
    pub leads : LeadsTo Shape (rom_word rom) addr items at
    pub each : AtEachOf NoneAt items

  pub begins : Straight addr
  begins = record { items = []; leads = refl; each = tt }

  module _ (at : ℕ) (k : Straight at) (format : Format) (instr : Instr) (is : cell_at (rom_word rom) at ≡ Holds format instr)
      (none : target Shape instr ≡ None) where
    abbrev item : Item
    item = record { at = at; format = format; instr = instr }

    here : NoneAt k.items at
    here f j q = let same : instr ≡ j = grind (arith, is, q) in subst (λ x. target Shape x ≡ None) same none

    pub onward : (next : ℕ) → next_address Shape item ≡ Some next → Straight next
    onward next goes = record { items = item ∷ k.items; leads = (k.leads, is, goes); each = (k.each, here) }

    pub done : next_address Shape item ≡ None → IsLeaf rom addr
    done last earlier i lead stands =
        everywhere Shape (rom_word rom) addr NoneAt k.items item k.leads is last (k.each, here) earlier i.at lead i.format i.instr stands

pub leaf_asked : (rom : Rom) (list : List Entry) (e : Entry) (m : Marks) → IsLeaf rom e.addr
    → AllAskedMarked (rom_word rom) list (shape_start e) m
leaf_asked rom list e m leaf to scale a = let no : Some to ≡ None = sym a.target_is ∙ leaf a.earlier a.item a.leads a.stands in absurd (cc)

pub none_of : {A : Type 0} (o : Option A) → is_some o ≡ false → o ≡ None
none_of None h = refl
none_of (Some x) h = absurd (cc h)
