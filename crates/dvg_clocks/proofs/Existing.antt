-- The sums are those of the items.
use Rattle.dvg_clocks.proofs.Common.{◌≡◌, ℕ, ◌<◌, zero, suc, List, [], ◌∷◌, length, refl, sym, ◌∙◌, ap, subst, arith, Contains, Rom, rom_word, frame_word, Halt, Item, Shape, Frame, shape_context, frame_context, word_count-some, Entry, Window, Mode, Good, GoodFrame, Memory, Forecast, taken_before, frame_taken, IsSumOfItems, ClocksOnCircuit, items_from, sum_to, sum_of, frame_sum, TakenOnCircuit, clocks_of_instr, clocks_known}
use Rattle.dvg_clocks.proofs.Entries.{same_taken, up_to, Walk, walk}
use Rattle.dvg_clocks.proofs.Walks.{few_items, same_walk, all_items}
use Rattle.dvg_clocks.proofs.CircuitRuns.{circuit_takes}
use Rattle.dvg_clocks.proofs.Forecasts.{forecasts_are_right}

module _ (forecast : Forecast) (mode : Mode) (w : Window) (rom : Rom) (list : List Entry) (good : Good mode w rom list) where
  -- the items of an entry's shape, as they are gone over
  shape_items : (e : Entry) (k : Walk mode w rom list good e) → items_from Shape (rom_word rom) e.words [] e.addr ≡ k.i ∷ k.items
  shape_items e k =
      all_items Shape (rom_word rom) e.addr k.items k.i (record { lead = k.lead; is = k.is; last = k.last }) e.words
      (omega (arith, few_items (shape_context rom.machine list e) (k.i ∷ k.items), k.few))

  -- how deep calls may nest does not matter from an entry's words on
  deep_enough : (e : Entry) → Contains list e → (a b : ℕ) → e.words < a → e.words < b
      → sum_to forecast rom list a e ≡ sum_to forecast rom list b e
  deep_enough e listed =
      up_to (λ f. (a b : ℕ) → f.words < a → f.words < b → sum_to forecast rom list a f ≡ sum_to forecast rom list b f) list next e.words
      e listed (omega arith) where
        next : (f : Entry) → Contains list f
            → ((g : Entry) → Contains list g → g.words < f.words → (a b : ℕ) → g.words < a → g.words < b
            → sum_to forecast rom list a g ≡ sum_to forecast rom list b g) → (a b : ℕ) → f.words < a → f.words < b
            → sum_to forecast rom list a f ≡ sum_to forecast rom list b f
        next f there smaller zero b la lb = absurd (omega (arith, la))
        next f there smaller (suc a) zero la lb = absurd (omega (arith, lb))
        next f there smaller (suc a) (suc b) la lb =
            let k = walk mode w rom list good f there in
            let same = same_taken forecast (sum_to forecast rom list a) (sum_to forecast rom list b) (shape_context rom.machine list f)
            (k.i ∷ k.items) (λ g l lt. smaller g l (omega (arith, lt, k.few)) a b (omega (arith, lt, k.few, la))
            (omega (arith, lt, k.few, lb))) in
            let put = λ (n : ℕ). ap (taken_before forecast (sum_to forecast rom list n) (shape_context rom.machine list f)) (shape_items f k) in
            put a ∙ same ∙ sym (put b)

  pub entries_sum : IsSumOfItems forecast rom list (sum_of forecast rom list)
  unfolding sum_of
  entries_sum e listed earlier i lead is last =
      let k = walk mode w rom list good e listed in
      let c = shape_context rom.machine list e in
      let one : k.i ∷ k.items ≡ i ∷ earlier =
      same_walk Shape (rom_word rom) e.addr k.items earlier k.i i (record { lead = k.lead; is = k.is; last = k.last })
      (record { lead = lead; is = is; last = last }) in
      let same = same_taken forecast (sum_to forecast rom list e.words) (sum_of forecast rom list) c (k.i ∷ k.items)
      (λ g l lt. deep_enough g l e.words (suc g.words) (omega (arith, lt, k.few)) (omega arith)) in
      ap (taken_before forecast (sum_to forecast rom list e.words) c) (shape_items e k) ∙ same
      ∙ ap (taken_before forecast (sum_of forecast rom list) c) one

pub frames_sum : (forecast : Forecast) (m : Memory) (w : Window) (list : List Entry) (budget words depth : ℕ)
    → (gf : GoodFrame w m.rom.machine m.frame list budget words depth)
    → frame_sum forecast m list words ≡ frame_taken forecast (sum_of forecast m.rom list) gf
frames_sum forecast m w list budget words depth gf =
    let c = frame_context m.rom.machine list in
    let i : Item = record { at = gf.at; format = gf.format; instr = Halt } in
    let some : length gf.items < words = omega (arith, gf.count_is, few_items c gf.items, word_count-some gf.format) in
    ap (taken_before forecast (sum_of forecast m.rom list) c)
    (all_items Frame (frame_word m.rom.machine m.frame) 0 gf.items i (record { lead = gf.leads; is = gf.halts; last = refl }) words
    some)

pub clocks_on_circuit : ClocksOnCircuit
clocks_on_circuit t mode m w v list budget words depth mem board three good gf =
    subst (TakenOnCircuit (clocks_of_instr t) m) (sym (frames_sum (clocks_known t) m v list budget words depth gf))
    (circuit_takes (clocks_of_instr t) (clocks_known t) (sum_of (clocks_known t) m.rom list) mode m w v list budget words depth
    (forecasts_are_right.clocks t) mem board three good (entries_sum (clocks_known t) mode w m.rom list good) gf)
