-- What is made and judged over one ROM, over another whose shapes read the same.
use Rattle.dvg_survey.proofs.Common.{◌≡◌, ℕ, ◌∙◌, List, [], ◌∷◌, Result, Contains, refl, sym, ap, subst, inl, inr, ⊎_elim, arith, Contains-append_left, Contains-append_right, Window, Rom, rom_word, cell_at, Cell, Entry, Key, Item, Shape, LeadsTo, shape_context, seen_at, CellKeeps, ShapeKeeps, ShapePlaceKeeps, GoodShape, Good, Exact, AllBefore, EachItem, MadeEntry, Needs, FramesMade, IsTouched, ReachesTouched, SameList}
use Rattle.dvg_survey.specs.Laws.{IsUntouched, SameVerdict}
use Rattle.dvg_items.proofs.Lists.{all_listed, at_place}
use Rattle.dvg_check.specs.declared.fault.Mode.{Mode}
use Rattle.dvg_check.specs.declared.fault.ShapeWhy.{ShapeWhy}
use Rattle.dvg_check.specs.declared.fault.ShapeWhy.TheVariants as shape
use Rattle.dvg_check.specs.FirstFault.{FirstShapeFault, ShapeFaultAt}
use Rattle.dvg_check.specs.declared.fault.ShapeFault.{ShapeFault}
use Rattle.dvg_check.specs.Verdict.{PartsVerdict}
use Rattle.dvg_check.specs.declared.verdict.Yes.{Yes}
use Rattle.dvg_check.specs.declared.verdict.Refusal.{Refusal}
use Rattle.dvg_make.specs.Judging.{ByMade}
use Rattle.dvg_make.proofs.OneFrame.{one_frames_made}
use Rattle.dvg_survey.proofs.Same.{with_words, alike_is, cell_there, forth, back, untouched_back}

-- ---- one list

module _ (rom : Rom) (others : List ℕ) (list : List Entry) (untouched : ReachesTouched rom (with_words rom others) list → ⊥) where
  abbrev other : Rom
  other = with_words rom others

  pub each_untouched : (e : Entry) → Contains list e → IsTouched rom other e.addr → ⊥
  each_untouched e c t = untouched (e, c, t)

  pub list_untouched_back : ReachesTouched other rom list → ⊥
  list_untouched_back t = untouched_back rom others t.0.addr (each_untouched t.0 t.1) t.2

  module _ (e : Entry) (c : Contains list e) where
    leads_back : (earlier : List Item) (p : ℕ) → LeadsTo Shape (rom_word other) e.addr earlier p
        → LeadsTo Shape (rom_word rom) e.addr earlier p
    leads_back = back rom others e.addr (each_untouched e c)

    cell_is : (earlier : List Item) (p : ℕ) → LeadsTo Shape (rom_word rom) e.addr earlier p
        → cell_at (rom_word rom) p ≡ cell_at (rom_word other) p
    cell_is = cell_there rom others e.addr (each_untouched e c)

    item_there : (P : List Item → Item → Type 0) → EachItem rom e.addr P → EachItem other e.addr P
    item_there P h earlier i lead is = let l = leads_back earlier i.at lead in h earlier i l (cell_is earlier i.at l ∙ is)

    module _ (mode : Mode) (w : Window) where
      abbrev Keeps : List Item → ℕ → ShapeWhy → Cell → Type 0
      Keeps earlier p why cell =
          CellKeeps shape.Unmapped shape.Odd (λ i. ShapeKeeps mode w e (seen_at (shape_context rom.machine list e) earlier i)) p cell why

      keep_there : (earlier : List Item) (p : ℕ) → LeadsTo Shape (rom_word rom) e.addr earlier p → (why : ShapeWhy)
          → ShapePlaceKeeps mode w rom list e earlier p why ≡ ShapePlaceKeeps mode w other list e earlier p why
      keep_there earlier p lead why = ap (Keeps earlier p why) (cell_is earlier p lead)

      good_shape : GoodShape mode w rom list e → GoodShape mode w other list e
      good_shape g earlier p lead why = let l = leads_back earlier p lead in rw (keep_there earlier p l why) at (g earlier p l why)

      before_there : (items : List Item) (p : ℕ) → LeadsTo Shape (rom_word rom) e.addr items p
          → AllBefore (ShapePlaceKeeps mode w rom list e) items → AllBefore (ShapePlaceKeeps mode w other list e) items
      before_there [] p lead h = tt
      before_there (i ∷ items) p lead h = (before_there items i.at lead.0 h.0, λ why. rw (keep_there items i.at lead.0 why) at (h.1 why))

      first_there : (p : ℕ) (why : ShapeWhy) → ShapeFaultAt mode w rom list e p why → ShapeFaultAt mode w other list e p why
      first_there p why h =
          record {
            items = h.items;
            leads = forth rom others e.addr (each_untouched e c) h.items p h.leads;
            before = before_there h.items p h.leads h.before;
            breaks = λ k. h.breaks (rw (← (keep_there h.items p h.leads why)) at k);
            lowest = λ less lt. rw (keep_there h.items p h.leads less) at (h.lowest less lt);
          }

    entry_there : MadeEntry rom list e → MadeEntry other list e
    entry_there m =
        record {
          keeps = λ earlier p lead why w ne. let l =
              leads_back earlier p lead in rw (keep_there Exact w earlier p l why) at (m.keeps earlier p l why w ne);
          keyed = item_there _ m.keyed;
          box = item_there _ m.box;
        }

  good_there : (mode : Mode) (w : Window) → Good mode w rom list → Good mode w other list
  good_there mode w g e c = good_shape e c mode w (g e c)

  fault_there : (mode : Mode) (w : Window) (f : ShapeFault) → FirstShapeFault mode w rom list f → FirstShapeFault mode w other list f
  fault_there mode w f h =
      let listed : Contains list h.entry =
      subst (λ (es : List Entry). Contains es h.entry) (sym h.order_is)
      (Contains-append_right h.before (h.entry ∷ h.after) h.entry (0, omega arith, refl)) in
      let among = λ (e : Entry) (c : Contains h.before e). subst (λ (es : List Entry). Contains es e) (sym h.order_is)
      (Contains-append_left h.before (h.entry ∷ h.after) e c) in
      search (
        h.order_is,
        all_listed _ h.before (λ e c. good_shape e (among e c) mode w (at_place _ h.before e h.good c)),
        first_there h.entry listed mode w f.word f.why h.fault,
      )

  verdict_there : (w : Window) (words : List ℕ) (budget : ℕ) (answer : Result Yes Refusal)
      → PartsVerdict Exact w rom list words budget answer → PartsVerdict Exact w other list words budget answer
  verdict_there w words budget answer h = grind (arith, good_there, fault_there)

  module _ (roots : List (ℕ × Key)) (frames : List (List ℕ)) (made : FramesMade rom roots frames list) where
    needs_there : (e f : Entry) → Contains list e → Needs rom list e f → Needs other list e f
    needs_there e f c n =
        search (
          forth rom others e.addr (each_untouched e c) n.earlier n.item.at n.leads,
          sym (cell_is e c n.earlier n.item.at n.leads) ∙ n.stands,
        )

    pub made_there : FramesMade other roots frames list
    made_there =
        record {
          certificate = made.certificate;
          each = λ e c. entry_there e c (made.each e c);
          rooted = made.rooted;
          needed = λ f c. ⊎_elim (λ asked. inl asked) (λ n. inr (n.0, n.1, needs_there n.0 f n.1 n.2)) (made.needed f c);
        }

-- ---- the laws

-- what goes from each ROM to one with other words goes both ways
pub both_ways : (rom other : Rom) (roots : List (ℕ × Key)) (frames : List (List ℕ)) (list : List Entry)
    → IsUntouched rom other roots frames list
    → (P : Rom → Rom → Type 0) → ((a : Rom) (others : List ℕ) → (ReachesTouched a (with_words a others) list → ⊥)
    → FramesMade a roots frames list → P a (with_words a others)) → P rom other × P other rom
both_ways rom other roots frames list u P go =
    subst (λ (o : Rom). (ReachesTouched rom o list → ⊥) → P rom o × P o rom) (alike_is rom other u.alike)
    (λ h. (
      go rom other.words h u.made,
      go (with_words rom other.words) rom.words (list_untouched_back rom other.words list h)
          (made_there rom other.words list h roots frames u.made),
    )) u.untouched

pub same_list : SameList
same_list rom other roots frames list u =
    (both_ways rom other roots frames list u (λ a b. FramesMade b roots frames list)
    (λ a others h made. made_there a others list h roots frames made)).0

pub same_verdict : SameVerdict
same_verdict rom other words list u w budget answer =
    both_ways rom other [] (words ∷ []) list u (λ a b. ByMade a words w budget answer → ByMade b words w budget answer)
    (λ a others h made by.
    let same : by.list ≡ list = one_frames_made a [] (words ∷ []) by.list list by.made made in
    search (
      made_there a others list h [] (words ∷ []) made,
      verdict_there a others list h w words budget answer
          (subst (λ (es : List Entry). PartsVerdict Exact w a es words budget answer) same by.verdict),
    ))
