-- A frame that is good over kept entries is accepted by its own list.
use Rattle.std.specs.Prelude.{◌≡◌, ℕ, zero, ◌+◌, List, ◌∷◌, Option, Some, None, Ok, refl}
use Rattle.std.proofs.Common.{inr}
use Rattle.dvg_words.specs.Values.{Window}
use Rattle.dvg_words.specs.Memory.{frame_word}
use Rattle.dvg_words.specs.declared.instruction.Cell.{Cell}
use Rattle.dvg_words.specs.declared.instruction.Format.{Format}
use Rattle.dvg_words.specs.declared.instruction.Instr.{Instr}
use Rattle.dvg_words.specs.declared.instruction.Instr.TheVariants.{Halt}
use Rattle.dvg_words.specs.declared.instruction.Cell.TheVariants.{Missing, Odd}
use Rattle.dvg_check.specs.Means.{Means}
use Rattle.dvg_check.specs.Rules.{GoodFrame, FramePlaceKeeps, FrameKeeps, CellKeeps}
use Rattle.dvg_check.specs.declared.fault.FrameWhy.{FrameWhy}
use Rattle.dvg_check.specs.declared.fault.FrameWhy.TheVariants as frame
use Rattle.dvg_check.specs.declared.fault.Mode.TheVariants.{Exact}
use Rattle.dvg_make.proofs.Common.{arith, sym, ap, subst, ◌∙◌, Machine, Entry, Key, Item, Frame, LeadsTo, Holds, cell_at, target, callee_at, scale_before, known_before, frame_context, seen_at, seen_with, Extends, HasCalls, Known, HasEntry, word_count}
use Rattle.dvg_make.proofs.Merging.{keyed_all, keyed_item}
use Rattle.dvg_make.proofs.Matching.{exact_named}
use Rattle.dvg_make.proofs.OwnCertificate.{judged_by}
use Rattle.dvg_make.specs.Private.Judged.{IsJudged}
use Rattle.dvg_kept.specs.Kept.{Kept}
use Rattle.dvg_kept.specs.Private.Own.{HasOwn}
use Rattle.dvg_kept.proofs.OwnList.{frame_same}

callee_same : (a b : List Entry) → Extends a b → (o : Option ℕ) (scale : Key) → ((to : ℕ) → o ≡ Some to → HasEntry a to scale)
    → callee_at b o scale ≡ callee_at a o scale
callee_same a b ext None scale h = refl
callee_same a b ext (Some to) scale h =
    let f = h to refl in exact_named b to scale f.0 (ext to scale f.0 f.1) ∙ sym (exact_named a to scale f.0 f.1)

abbrev pub item_of : ℕ → Format → Instr → Item
item_of at format instr = record { at = at; format = format; instr = instr }

-- where each call of a frame has its entry, what is seen of its items is the same by a list that has more
module _ (machine : Machine) (words : List ℕ) (a b : List Entry) (ext : Extends a b) (calls : HasCalls machine words a) where
  seen_same : (earlier : List Item) (i : Item) → LeadsTo Frame (frame_word machine words) 0 earlier i.at
      → cell_at (frame_word machine words) i.at ≡ Holds i.format i.instr
      → seen_at (frame_context machine b) earlier i ≡ seen_at (frame_context machine a) earlier i
  seen_same earlier i lead is =
      let known = frame_same machine a b ext earlier (keyed_all machine words a calls earlier i.at lead) in
      let same = callee_same a b ext (target Frame i.instr) (scale_before (frame_context machine a) earlier)
      (keyed_item machine words a calls earlier i lead is) in
      ap (λ (x : Known). seen_with machine (callee_at b (target Frame i.instr) x.scale) x i) (sym known)
      ∙ ap (λ (o : Option Entry). seen_with machine o (known_before (frame_context machine a) earlier) i) same

  frame_keeps : (w : Window) (budget : ℕ) (earlier : List Item) (p : ℕ) → LeadsTo Frame (frame_word machine words) 0 earlier p
      → (why : FrameWhy) → FramePlaceKeeps w machine words b budget earlier p why → FramePlaceKeeps w machine words a budget earlier p why
  frame_keeps w budget earlier p lead why = by_cell (cell_at (frame_word machine words) p) refl
    where
      by_cell : (cell : Cell) → cell_at (frame_word machine words) p ≡ cell
          → CellKeeps frame.Unmapped frame.Odd (λ i. FrameKeeps w budget (seen_at (frame_context machine b) earlier i)) p cell why
          → CellKeeps frame.Unmapped frame.Odd (λ i. FrameKeeps w budget (seen_at (frame_context machine a) earlier i)) p cell why
      by_cell Missing is h = h
      by_cell Odd is h = h
      by_cell (Holds format i) is h =
          subst (λ v. FrameKeeps w budget v why) (seen_same earlier (record { at = p; format = format; instr = i }) lead is) h

  pub good_own : (w : Window) (budget n d : ℕ) → GoodFrame w machine words b budget n d → GoodFrame w machine words a budget n d
  good_own w budget n d good =
      let same = frame_same machine a b ext good.items (keyed_all machine words a calls good.items good.at good.leads) in
      record {
        keeps = λ earlier p lead why. frame_keeps w budget earlier p lead why (good.keeps earlier p lead why);
        items = good.items;
        at = good.at;
        format = good.format;
        leads = good.leads;
        halts = good.halts;
        count_is = good.count_is ∙ ap (λ (x : Known). x.words + word_count good.format) (sym same);
        depth_is = good.depth_is ∙ ap (λ (x : Known). x.depth) (sym same);
      }

  -- a frame that is good so, with the same items
  pub record GoodOwn (w : Window) (budget n d : ℕ) (good : GoodFrame w machine words b budget n d) : Type 0 where
    pub own : GoodFrame w machine words a budget n d
    pub items : item_of own.at own.format Halt ∷ own.items ≡ item_of good.at good.format Halt ∷ good.items

  pub own_items : (w : Window) (budget n d : ℕ) (good : GoodFrame w machine words b budget n d) → GoodOwn w budget n d good
  unfolding good_own
  own_items w budget n d good = record { own = good_own w budget n d good; items = refl }

module _ (k : Kept) (words : List ℕ) (n : ℕ) (own : HasOwn k words n) (budget count depth : ℕ)
    (good : GoodFrame k.window k.rom.machine words k.list budget count depth)
    (means : Means Exact (record { frame = words; rom = k.rom }) k.window count depth) where
  pub calls : HasCalls k.rom.machine words own.list
  calls to scale c = own.made.rooted to scale (inr (words, (zero, omega arith, refl), c))

  mine : GoodFrame k.window k.rom.machine words own.list budget count depth
  mine = good_own k.rom.machine words own.list k.list own.extends calls k.window budget count depth good

  pub judged_yes : IsJudged k.rom words k.window budget (Ok (record { shapes = n; words = count; depth = depth }))
  judged_yes =
      judged_by k.rom words k.window budget own.list own.made (Ok (record { shapes = n; words = count; depth = depth })) tt
      (own.good, mine, sym own.count) means
