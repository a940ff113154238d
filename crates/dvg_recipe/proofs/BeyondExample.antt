-- The frame of the worked recipe that is refused: its made certificate has the stroke alone, and by that its call leaves the screen.
use Rattle.dvg_recipe.proofs.Common.{◌≡◌, ◌∙◌, ℕ, zero, List, [], ◌∷◌, Some, None, refl, sym, subst, inl, inr, arith, LeadsTo, next_address}
use Rattle.dvg_check.proofs.Common.{ints, pos, Board, Short, Long, Holds, Halt, Labs, Jsrl, Item, Frame, Shape, Source, Entry, At, Rom, screen, rom_word, frame_word, shape_context, scale_before, target, FirstFrameFault, LitBox, Empty, Span, Point, rom_for, example_entry, example_list}
unfoldable use Rattle.dvg_check.proofs.Common.{cell_at, instruction_of, displacement}
use Rattle.dvg_check.specs.declared.fault.Mode.TheVariants.{Exact}
use Rattle.dvg_check.specs.declared.fault.FrameWhy.TheVariants as rule
use Rattle.dvg_check.proofs.Faults.{all_kept}
use Rattle.dvg_check.proofs.Example.{draw_item, return_item, draw_there, return_there, worked_example}
use Rattle.dvg_items.proofs.Leading.{item_same}
use Rattle.dvg_items.specs.Least.{lit_points, HoldsAll, IsLeast}
use Rattle.dvg_items.specs.Lit.{IsInside}
use Rattle.dvg_cert.specs.declared.entry.Key.{Key}
use Rattle.dvg_make.specs.Made.{HasEntry, EachItem, MadeEntry}
use Rattle.dvg_make.specs.Frames.{IsAskedFor, FrameAsksFor, FrameMade, IsKeyed}
use Rattle.dvg_make.proofs.Ends.{other_window}
use Rattle.dvg_make.proofs.Merging.{only_listed}
use Rattle.dvg_recipe.specs.Members.{IsMember}
use Rattle.dvg_recipe.specs.Examples.{ColumnParts, column_recipe, WorkedRefusal}
use Rattle.dvg_recipe.proofs.ColumnExample.{place_item, call_item, halt_item, belongs_by, some_same}

-- LABS to X 0 and Y 257 at scale 0; JSRL 800; HALT
abbrev beyond_words : List ℕ
beyond_words = 0xA101 ∷ 0x0000 ∷ 0xC800 ∷ 0xB000 ∷ []

abbrev rom : Rom
rom = rom_for Board

abbrev frame : Source
frame = frame_word Board beyond_words

-- ---- where it leads

place_there : cell_at frame 0 ≡ Holds Long (Labs 0 257 0)
unfolding cell_at instruction_of
place_there = refl

call_there : cell_at frame 2 ≡ Holds Short (Jsrl 0x800)
unfolding cell_at instruction_of
call_there = refl

halt_there : cell_at frame 3 ≡ Holds Short Halt
unfolding cell_at instruction_of
halt_there = refl

beyond_leads : LeadsTo Frame frame 0 (call_item 0x800 ∷ place_item 0 257 ∷ []) 3
beyond_leads = ((refl, place_there, refl), call_there, refl)

beyond_belongs : (p : ColumnParts (pos 257)) → IsMember (rom_for Board) (column_recipe p) beyond_words
beyond_belongs p =
    belongs_by 257 beyond_words (pos 257) p (record { some = omega arith; few = omega arith }) beyond_leads halt_there
    (record { low = omega (arith, ints); high = omega (arith, ints) })

-- ---- what holds of each item

module _ (source : Source) (P : List Item → Item → Type 0) where
  -- what holds of the item, if it stands at a place
  abbrev Here : List Item → ℕ → Item → Type 0
  Here earlier p i = i.at ≡ p → cell_at source p ≡ Holds i.format i.instr → P earlier i

  here : (earlier : List Item) (i : Item) → cell_at source i.at ≡ Holds i.format i.instr → P earlier i → (j : Item) → Here earlier i.at j
  here earlier i is h j at stands = subst (P earlier) (item_same i j (sym at) (sym is ∙ stands)) h

module _ (P : List Item → Item → Type 0) where
  stroke_items : P [] draw_item → P (draw_item ∷ []) return_item → EachItem rom 2048 P
  stroke_items first last earlier i lead is =
      all_kept Shape (rom_word rom) 2048 Item (Here (rom_word rom) P) (draw_item ∷ []) return_item (refl, draw_there Board, refl)
      (return_there Board) refl (
        (tt, here (rom_word rom) P [] draw_item (draw_there Board) first),
        here (rom_word rom) P (draw_item ∷ []) return_item (return_there Board) last,
      ) earlier i.at lead i refl is

  frame_items : P [] (place_item 0 257) → P (place_item 0 257 ∷ []) (call_item 0x800)
      → P (call_item 0x800 ∷ place_item 0 257 ∷ []) halt_item
      → (earlier : List Item) (i : Item) → LeadsTo Frame frame 0 earlier i.at → cell_at frame i.at ≡ Holds i.format i.instr → P earlier i
  frame_items first second last earlier i lead is =
      all_kept Frame frame 0 Item (Here frame P) (call_item 0x800 ∷ place_item 0 257 ∷ []) halt_item beyond_leads halt_there refl (
        (
          (tt, here frame P [] (place_item 0 257) place_there first),
          here frame P (place_item 0 257 ∷ []) (call_item 0x800) call_there second,
        ),
        here frame P (call_item 0x800 ∷ place_item 0 257 ∷ []) halt_item halt_there last,
      ) earlier i.at lead i refl is

-- ---- its certificate

-- the corners of what the stroke lights
abbrev points : List Point
points = lit_points (shape_context Board example_list example_entry) (return_item ∷ draw_item ∷ [])

-- a box that holds both corners is around the stroke's
around_stroke : (other : LitBox) → HoldsAll other points → IsInside example_entry.lit other
unfolding displacement
around_stroke Empty h = absurd h.0
around_stroke (Span left right bottom top) h = (h.0.left, h.1.0.right, h.0.bottom, h.1.0.top)

stroke_least : IsLeast points example_entry.lit
unfolding displacement
stroke_least =
    record {
      holds = (
        record { left = omega (arith, ints); right = omega (arith, ints); bottom = omega (arith, ints); top = omega (arith, ints) },
        (record { left = omega (arith, ints); right = omega (arith, ints); bottom = omega (arith, ints); top = omega (arith, ints) }, tt),
      );
      least = around_stroke;
    }

stroke_made : MadeEntry rom example_list example_entry
stroke_made =
    record {
      keeps = λ earlier p lead why w not. other_window Exact rom example_list example_entry screen w earlier p why not
          ((worked_example Board).exact example_entry (zero, omega arith, refl) earlier p lead why);
      keyed = stroke_items (λ earlier i. (to : ℕ) → target Shape i.instr ≡ Some to
          → HasEntry example_list to (scale_before (shape_context Board example_list example_entry) earlier)) (λ to e. cc e) (λ to e. cc e);
      box = stroke_items (λ earlier i. next_address Shape i ≡ None
          → IsLeast (lit_points (shape_context Board example_list example_entry) (i ∷ earlier)) example_entry.lit) (λ e. cc e)
          (λ e. stroke_least);
    }

-- what the frame calls has its entry
called_keyed : IsKeyed Board example_list (place_item 0 257 ∷ []) (call_item 0x800)
called_keyed to e = subst (λ n. HasEntry example_list n (At 0)) (some_same 2048 to e) (example_entry, refl)

asked_keyed : (addr : ℕ) (key : Key) → FrameAsksFor Board beyond_words example_list addr key → HasEntry example_list addr key
asked_keyed addr key asks =
    subst (HasEntry example_list addr) asks.scale_is
    (frame_items (IsKeyed Board example_list) (λ to e. cc e) called_keyed (λ to e. cc e) asks.earlier asks.item asks.leads asks.stands
    addr asks.target_is)

all_keyed : (addr : ℕ) (key : Key) → IsAskedFor Board [] (beyond_words ∷ []) example_list addr key → HasEntry example_list addr key
all_keyed addr key (inl c) = absurd (omega (arith, c.1))
all_keyed addr key (inr (words, c, asks)) =
    asked_keyed addr key (subst (λ (l : List ℕ). FrameAsksFor Board l example_list addr key) (sym (only_listed beyond_words words c)) asks)

stroke_asked : IsAskedFor Board [] (beyond_words ∷ []) example_list 0x800 (At 0)
stroke_asked =
    inr (
      beyond_words,
      (0, omega arith, refl),
      record {
        earlier = place_item 0 257 ∷ [];
        item = call_item 0x800;
        leads = (refl, place_there, refl);
        stands = call_there;
        target_is = refl;
        scale_is = refl;
      },
    )

beyond_made : FrameMade rom beyond_words example_list
beyond_made =
    record {
      certificate = (worked_example Board).certificate;
      each = λ e c. subst (MadeEntry rom example_list) (only_listed example_entry e c) stroke_made;
      rooted = all_keyed;
      needed = λ f c. inl (subst (λ (e : Entry). IsAskedFor Board [] (beyond_words ∷ []) example_list e.addr e.key)
          (only_listed example_entry f c) stroke_asked);
    }

-- ---- its first fault

beyond_fault : FirstFrameFault screen Board beyond_words example_list 20000 (record { word = 2; why = rule.OffScreen })
unfolding cell_at instruction_of displacement
beyond_fault =
    record {
      items = place_item 0 257 ∷ [];
      leads = (refl, refl, refl);
      before = (tt, λ why. grind (arith, ints));
      breaks = λ kept. omega (arith, ints, kept.1.0.top);
      lowest = λ other low. grind (arith);
    }

pub beyond_refused : (p : ColumnParts (pos 257)) → WorkedRefusal (column_recipe p)
beyond_refused p =
    record {
      member = beyond_belongs p;
      judged =
          record { list = example_list; made = beyond_made; verdict = ((worked_example Board).exact, beyond_fault) };
    }
