-- What is said of entries: that it is little for each word, and that words are said so, too.
use Rattle.dvg_clocks.proofs.Common.{◌≡◌, ℕ, ◌+◌, ◌≤◌, ◌<◌, zero, suc, List, [], ◌∷◌, length, length-append, Option, None, Some, refl, sym, ◌∙◌, ap, arith, Contains, Rom, rom_word, cell_at, Holds, word_count, Entry, Item, Shape, LeadsTo, next_address, Context, shape_context, target, callee, scale_before, words_before, named_listed, word_count-some, callee_words, Window, Mode, Good, Forecast, ClockRange, plus, just, callee_taken, taken_before, IsSumOfItems, words_known, words_of_instr, taken_after, taken_next, WordsAreTaken, TightForecast, effective_scale}
use Rattle.std.specs.Prelude.{◌-◌}
use Rattle.dvg_check.specs.declared.fault.Mode.TheVariants.{Exact}
use Rattle.dvg_check.specs.declared.fault.ShapeWhy.TheVariants as shape
use Rattle.dvg_circuit.specs.Counters.{counts}
use Rattle.dvg_circuit.specs.Circuit.{Reads, Run, step, places, run_after, begin}
use Rattle.dvg_clocks.proofs.ShapeRuns.{rule, find_last}

-- what is said alike of all called entries is the same for the items
pub same_taken : (forecast : Forecast) (a b : Entry → ClockRange) (c : Context) (items : List Item)
    → ((f : Entry) → Contains c.list f → f.words < words_before c items → a f ≡ b f)
    → taken_before forecast a c items ≡ taken_before forecast b c items
same_taken forecast a b c [] same = refl
same_taken forecast a b c (i ∷ earlier) same =
    let rest = same_taken forecast a b c earlier (λ f l lt. same f l (omega (arith, lt))) in
    let here : callee_taken a (callee c earlier i.instr) ≡ callee_taken b (callee c earlier i.instr) =
    called (callee c earlier i.instr) refl in
    ap (λ x. plus (plus (forecast i.format i.instr (scale_before c earlier)) x) (taken_before forecast a c earlier)) here
    ∙ ap (λ x. plus (plus (forecast i.format i.instr (scale_before c earlier)) (callee_taken b (callee c earlier i.instr))) x) rest
  where
    called : (o : Option Entry) → callee c earlier i.instr ≡ o → callee_taken a o ≡ callee_taken b o
    called None is = refl
    called (Some f) is =
        same f (named_listed c.list (target c.kind i.instr) (scale_before c earlier) f is)
        (omega (arith, ap callee_words is, word_count-some i.format))

-- what holds of each entry, if it holds of those with fewer words, holds of all
pub up_to : (P : Entry → Type 0) (list : List Entry)
    → ((e : Entry) → Contains list e → ((f : Entry) → Contains list f → f.words < e.words → P f) → P e) → (n : ℕ) (e : Entry)
    → Contains list e → e.words ≤ n → P e
up_to P list next zero e listed le = next e listed (λ f l lt. absurd (omega arith))
up_to P list next (suc n) e listed le = next e listed (λ f l lt. up_to P list next n f l (omega arith))

-- a walk to the last item of a good shape
module _ (mode : Mode) (w : Window) (rom : Rom) (list : List Entry) (good : Good mode w rom list) where
  pub record Walk (e : Entry) : Type 0 where
    pub items : List Item
    pub i : Item
    pub lead : LeadsTo Shape (rom_word rom) e.addr items i.at
    pub is : cell_at (rom_word rom) i.at ≡ Holds i.format i.instr
    pub last : next_address Shape i ≡ None
    pub few : words_before (shape_context rom.machine list e) (i ∷ items) ≤ e.words

  pub walk : (e : Entry) → Contains list e → Walk e
  walk e listed =
      let (items, i, lead, is, last) =
      find_last mode rom w list e (good e listed) (suc e.words) [] e.addr refl (omega arith) (omega arith) in
      record {
        items = items;
        i = i;
        lead = lead;
        is = is;
        last = last;
        few =
            rule mode rom w list e (good e listed) items i lead is shape.TooManyWords;
      }

-- ---- words

words_items : (c : Context) (items : List Item) → taken_before words_known (λ e. just e.words) c items ≡ just (words_before c items)
words_items c [] = refl
words_items c (i ∷ earlier) =
    let rest = words_items c earlier in
    let here = called (callee c earlier i.instr) in
    ap (λ x. plus (plus (just (word_count i.format)) x) (taken_before words_known (λ e. just e.words) c earlier)) here
    ∙ ap (λ x. plus (plus (just (word_count i.format)) (just (callee_words (callee c earlier i.instr)))) x) rest
  where
    called : (o : Option Entry) → callee_taken (λ e. just e.words) o ≡ just (callee_words o)
    called None = refl
    called (Some f) = refl

words_entries : (w : Window) (rom : Rom) (list : List Entry) → Good Exact w rom list → IsSumOfItems words_known rom list (λ e. just e.words)
words_entries w rom list good e listed earlier i lead is last =
    let same = rw last at (rule Exact rom w list e (good e listed) earlier i lead is shape.WordsDiffer) in
    ap just (sym same) ∙ sym (words_items (shape_context rom.machine list e) (i ∷ earlier))

words_step : (reads : Reads) (r : Run) → length (step reads r).fetched ≡ length r.fetched + taken_next words_of_instr reads r
words_step reads r = grind (arith, length-append, places)

words_run : (reads : ℕ → Reads) (r : Run) (n : ℕ) → length r.fetched ≡ 0
    → length (run_after reads n r).fetched ≡ taken_after words_of_instr reads n r
words_run reads r zero none = none
words_run reads r (suc n) none =
    words_step (reads n) (run_after reads n r)
    ∙ ap (λ k. k + taken_next words_of_instr (reads n) (run_after reads n r)) (words_run reads r n none)

pub words_are_taken : WordsAreTaken
words_are_taken = record { items = words_items; entries = words_entries; runs = λ reads c n. words_run reads (begin c) n refl }

-- ---- tight

effective : (l k n : ℕ) → l + k ≡ n → n < 16 → effective_scale l k ≡ n
effective l k n e lt = omega (arith, e, lt)

pub tight_forecast : TightForecast
tight_forecast d few =
    record {
      none = (10 - d.lscale, omega arith, ap counts (effective d.lscale (10 - d.lscale) 10 (omega (arith, few)) (omega arith)));
      all = (9 - d.lscale, omega arith, ap counts (effective d.lscale (9 - d.lscale) 9 (omega (arith, few)) (omega arith)));
    }
