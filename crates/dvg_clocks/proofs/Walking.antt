-- What the loop over items keeps, and what follows where it stops.
use Rattle.dvg_clocks.proofs.Common.{◌≡◌, ℕ, ◌+◌, ◌*◌, ◌≤◌, ◌<◌, List, [], ◌∷◌, Option, Some, None, refl, sym, ◌∙◌, ap, subst, arith, Contains, Entry, Key, Any, Rom, rom_word, Item, LeadsTo, next_address, shape_context, words_before, scale_before, Context, target, callee, callee_words, word_count, word_count-some, named_listed, Cell, Holds, Format, Instr, cell_at, ClockRange, States, plus, just, callee_taken, taken_before, clocks_known, sum_of, ShapeKeeps, seen_at, AreGood, WORD_CLOCKS, frame_sum, frame_context, frame_word, Frame, Halt, FrameKeeps, FrameWhy, CellKeeps, GoodFrame, Window, Memory, IsMemory, Board, IsAcceptedFrame, TakenOnCircuit, clocks_of_instr, ScaleCursor, Kept, AreTold, AreAllFew, IsFewFor, clocks_in, context_at, cursor_past, AreFew, IsWalkable, IsWhole, IsTaken, IsOver, IsFirstOver}
use Rattle.std.proofs.Math.Nat.{mul-add, mul-le-mul_left}
use Rattle.std.specs.Prelude.{IfSome, IfOk, IfErr, Result, Ok, Err, unwrap_or}
use Rattle.dvg_words.specs.Values.{Source}
use Rattle.dvg_cert.specs.Entry.{IsKey}
use Rattle.dvg_cert.specs.declared.limits.TheConstants.{MOST_WORDS}
use Rattle.dvg_check.specs.declared.fault.ShapeWhy.TheVariants as shape
use Rattle.dvg_check.specs.declared.fault.FrameWhy.TheVariants as frame
use Rattle.dvg_check.proofs.Common.{listed_claim, IsSomeCertificate}
use Rattle.dvg_items.specs.Known.{callee_at}
use Rattle.dvg_clocks.proofs.Entries.{same_taken}
use Rattle.dvg_clocks.proofs.Walks.{same_walk}
use Rattle.dvg_clocks.proofs.ShapeRuns.{rule, holds}
use Rattle.dvg_clocks.proofs.Existing.{frames_sum, clocks_on_circuit}

-- little is kept of what is called
pub few_of : (kept : Kept) (list : List Entry) → AreAllFew kept list → (to : Option ℕ) (scale : Key) (o : Option Entry)
    → o ≡ callee_at list to scale → IfSome o (IsFewFor kept)
few_of kept list few to scale None is = tt
few_of kept list few to scale (Some f) is = few f (named_listed list to scale f (sym is))

module _ (t : States) (source : Source) (list : List Entry) (kept : Kept) (first : ScaleCursor) (limit : ℕ) where
  abbrev c : Context
  c = context_at source list first

  -- how the loop stands, before the item that is here
  pub record Going (here : ScaleCursor) (sum : ClockRange) : Type 0 where
    pub items : List Item
    pub leads : LeadsTo first.kind source first.at items here.at
    pub kind : here.kind ≡ first.kind
    pub scale : here.scale ≡ scale_before c items
    pub key : IsKey here.scale
    pub sum_is : sum ≡ taken_before (clocks_known t) (clocks_in kept) c items
    pub ordered : sum.least ≤ sum.most
    pub few : sum.most ≤ WORD_CLOCKS * words_before c items
    pub within : words_before c items ≤ MOST_WORDS
    pub below : sum.most ≤ limit

  pub begins : IsKey first.scale → Going first (just 0)
  begins key =
      record {
        items = [];
        leads = refl;
        kind = refl;
        scale = refl;
        key = key;
        sum_is = refl;
        ordered = omega arith;
        few = omega arith;
        within = omega arith;
        below = omega arith;
      }

  module _ (walk : IsWalkable source list first) (here : ScaleCursor) (sum : ClockRange) (k : Going here sum) where
    -- there is an item
    pub stands : (format : Format) × (i : Instr) × (cell_at source here.at ≡ Holds format i)
    stands = walk.few.there k.items here.at k.leads

    module _ (format : Format) (i : Instr) (is : cell_at source here.at ≡ Holds format i) (called : Option Entry)
        (names : called ≡ callee_at list (target here.kind i) here.scale) where
      abbrev item : Item
      item = record { at = here.at; format = format; instr = i }

      named : called ≡ callee c k.items i
      named = names ∙ ap (λ kind. callee_at list (target kind i) here.scale) k.kind ∙ ap (callee_at list (target first.kind i)) k.scale

      pub listed : (f : Entry) → called ≡ Some f → Contains list f
      listed f is_f = named_listed list (target here.kind i) here.scale f (sym names ∙ is_f)

      -- the words with this item
      all_words : word_count format + callee_words called + words_before c k.items ≤ MOST_WORDS
      all_words = omega (arith, walk.few.few k.items item k.leads is, ap callee_words named, walk.within)

      module _ (one : ClockRange) (one_is : one ≡ plus (clocks_known t format i here.scale) (callee_taken (clocks_in kept) called))
          (one_ordered : one.least ≤ one.most) (one_few : one.most ≤ WORD_CLOCKS * (1 + callee_words called)) where
        few_here : one.most + sum.most ≤ WORD_CLOCKS * words_before c (item ∷ k.items)
        few_here =
            omega (
              arith,
              one_few,
              k.few,
              mul-add WORD_CLOCKS (1 + callee_words called) (words_before c k.items),
              mul-le-mul_left WORD_CLOCKS words_fit,
            )
          where
            words_fit : 1 + callee_words called + words_before c k.items ≤ words_before c (item ∷ k.items)
            words_fit = omega (arith, word_count-some format, ap callee_words named)

        sum_here : plus one sum ≡ taken_before (clocks_known t) (clocks_in kept) c (item ∷ k.items)
        sum_here = cc (one_is, named, k.scale, k.sum_is)

        pub onward : one.most + sum.most ≤ limit → (next : ScaleCursor) → cursor_past here item called ≡ Some next → IsKey next.scale
            → Going next (plus one sum)
        onward below next goes key = by (next_address here.kind item) refl
          where
            by : (o : Option ℕ) → next_address here.kind item ≡ o → Going next (plus one sum)
            by None is_o = absurd (grind (arith, goes, is_o))
            by (Some at) is_o =
                record {
                  items = item ∷ k.items;
                  leads = (k.leads, is, grind (arith, goes, is_o, k.kind));
                  kind = grind (arith, goes, is_o, k.kind);
                  scale = grind (arith, goes, is_o, k.scale, named);
                  key = key;
                  sum_is = sum_here;
                  ordered = omega (arith, one_ordered, k.ordered);
                  few = few_here;
                  within = omega (arith, all_words, ap callee_words named);
                  below = below;
                }

        pub done : one.most + sum.most ≤ limit → cursor_past here item called ≡ None → IsTaken t source list kept first limit (plus one sum)
        done below goes =
            record {
              items = k.items;
              item = item;
              whole = record { lead = k.leads; is = is; last = grind (arith, goes, k.kind) };
              sum_is = sum_here;
              ordered = omega (arith, one_ordered, k.ordered);
              few = few_here;
              within = below;
            }

        pub over : limit < one.most + sum.most → IsOver t source list kept first limit here.at
        over more =
            record {
              items = k.items;
              item = item;
              at_is = refl;
              lead = k.leads;
              is = is;
              before = omega (arith, ap (λ (r : ClockRange). r.most) k.sum_is, k.below);
              over = omega (arith, ap (λ (r : ClockRange). r.most) sum_here, more);
              words = omega (arith, all_words, ap callee_words named);
              few = omega (arith, ap (λ (r : ClockRange). r.most) sum_here, few_here, mul-le-mul_left WORD_CLOCKS here_fits);
            }
          where
            here_fits : words_before c (item ∷ k.items) ≤ MOST_WORDS
            here_fits = omega (arith, all_words, ap callee_words named)

-- ---- shapes

module _ (rom : Rom) (list : List Entry) (all : AreGood rom list) (e : Entry) (listed : Contains list e) where
  pub shape_few : AreFew (shape_context rom.machine list e) (rom_word rom) e.addr e.words
  shape_few =
      record {
        there = λ earlier p lead. holds (λ x. ShapeKeeps all.mode all.window e (seen_at (shape_context rom.machine list e) earlier x)) p
            (cell_at (rom_word rom) p) (all.good e listed earlier p lead shape.Unmapped) (all.good e listed earlier p lead shape.Odd);
        few = λ earlier i lead is. rule all.mode rom all.window list e (all.good e listed) earlier i lead is shape.TooManyWords;
      }

-- ---- frames

holds_frame : (K : Item → FrameWhy → Type 0) (p : ℕ) (cell : Cell) → CellKeeps frame.Unmapped frame.Odd K p cell frame.Unmapped
    → CellKeeps frame.Unmapped frame.Odd K p cell frame.Odd → (format : Format) × (instr : Instr) × (cell ≡ Holds format instr)
holds_frame K p (Holds format instr) a b = (format, instr, refl)
holds_frame K p cell a b = grind (arith)

module _ (m : Memory) (w : Window) (list : List Entry) (budget words depth : ℕ)
    (gf : GoodFrame w m.rom.machine m.frame list budget words depth) where
  abbrev f : Context
  f = frame_context m.rom.machine list

  pub frame_few : AreFew f (frame_word m.rom.machine m.frame) 0 budget
  frame_few =
      record {
        there = λ earlier p lead. holds_frame (λ x. FrameKeeps w budget (seen_at f earlier x)) p
            (cell_at (frame_word m.rom.machine m.frame) p) (gf.keeps earlier p lead frame.Unmapped) (gf.keeps earlier p lead frame.Odd);
        few = λ earlier i lead is. subst
            (λ x. CellKeeps frame.Unmapped frame.Odd (λ j. FrameKeeps w budget (seen_at f earlier j)) i.at x frame.Budget) is
            (gf.keeps earlier i.at lead frame.Budget);
      }

  pub frame_sum_is : (t : States) (items : List Item) (j : Item) → IsWhole Frame (frame_word m.rom.machine m.frame) 0 items j
      → taken_before (clocks_known t) (sum_of (clocks_known t) m.rom list) f (j ∷ items) ≡ frame_sum (clocks_known t) m list words
  frame_sum_is t items j whole =
      let i : Item = record { at = gf.at; format = gf.format; instr = Halt } in
      let one : j ∷ items ≡ i ∷ gf.items =
      same_walk Frame (frame_word m.rom.machine m.frame) 0 items gf.items j i whole
      (record { lead = gf.leads; is = gf.halts; last = refl }) in
      ap (taken_before (clocks_known t) (sum_of (clocks_known t) m.rom list) f) one
      ∙ sym (frames_sum (clocks_known t) m w list budget words depth gf)

pub frame_on_circuit : (t : States) (m : Memory) (list : List Entry) (words : ℕ) (range : ClockRange) → IsMemory m
    → IsSomeCertificate list → AreGood m.rom list → IsAcceptedFrame m list words → range ≡ frame_sum (clocks_known t) m list words
    → m.rom.machine ≡ Board → TakenOnCircuit (clocks_of_instr t) m range
frame_on_circuit t m list words range mem certificate all gf is board =
    subst (TakenOnCircuit (clocks_of_instr t) m) (sym is)
    (clocks_on_circuit t all.mode m all.window gf.window list gf.budget words gf.depth mem board
    (λ e listed. (listed_claim list e certificate listed).depth) all.good gf.good)

-- an accepted frame
module _ (m : Memory) (list : List Entry) (words : ℕ) (gf : IsAcceptedFrame m list words) where
  pub accepted_few : AreFew (frame_context m.rom.machine list) (frame_word m.rom.machine m.frame) 0 MOST_WORDS
  accepted_few =
      let f = frame_few m gf.window list gf.budget words gf.depth gf.good in
      record { there = f.there; few = λ earlier i lead is. omega (arith, f.few earlier i lead is, gf.few) }

  pub accepted_sum : (t : States) (items : List Item) (j : Item) → IsWhole Frame (frame_word m.rom.machine m.frame) 0 items j
      → taken_before (clocks_known t) (sum_of (clocks_known t) m.rom list) (frame_context m.rom.machine list) (j ∷ items)
      ≡ frame_sum (clocks_known t) m list words
  accepted_sum t items j whole = frame_sum_is m gf.window list gf.budget words gf.depth gf.good t items j whole

  -- it can be gone over
  pub frame_walkable : IsWalkable (frame_word m.rom.machine m.frame) list (record { kind = Frame; at = 0; scale = Any })
  frame_walkable = record { most = MOST_WORDS; within = omega arith; few = accepted_few }

  module _ (t : States) (kept : Kept) (told : AreTold t m.rom list kept) (limit : ℕ) where
    -- what its items take by what is kept is what they take
    as_told : (items : List Item) → taken_before (clocks_known t) (clocks_in kept) (frame_context m.rom.machine list) items
        ≡ taken_before (clocks_known t) (sum_of (clocks_known t) m.rom list) (frame_context m.rom.machine list) items
    as_told items =
        same_taken (clocks_known t) (clocks_in kept) (sum_of (clocks_known t) m.rom list) (frame_context m.rom.machine list) items
        (λ g h less. ap (λ o. unwrap_or o (just 0)) (told g h).told)

    -- in all, its sum
    pub frame_is : (sum : ClockRange)
        → (taken : IsTaken t (frame_word m.rom.machine m.frame) list kept (record { kind = Frame; at = 0; scale = Any }) limit sum)
        → sum ≡ frame_sum (clocks_known t) m list words
    frame_is sum taken = taken.sum_is ∙ as_told (taken.item ∷ taken.items) ∙ accepted_sum t taken.items taken.item taken.whole

    pub frame_over : (at : ℕ) → IsOver t (frame_word m.rom.machine m.frame) list kept (record { kind = Frame; at = 0; scale = Any })
        limit at → IsFirstOver t m list limit at
    frame_over at o =
        record {
          items = o.items;
          item = o.item;
          at_is = o.at_is;
          leads = o.lead;
          stands = o.is;
          before = omega (arith, o.before, ap (λ (r : ClockRange). r.most) (as_told o.items));
          over = omega (arith, o.over, ap (λ (r : ClockRange). r.most) (as_told (o.item ∷ o.items)));
        }

    -- so for an answer
    pub are : (r : Result ClockRange ℕ)
        → IfOk r (IsTaken t (frame_word m.rom.machine m.frame) list kept (record { kind = Frame; at = 0; scale = Any }) limit)
        → IfOk r (λ sum. sum ≡ frame_sum (clocks_known t) m list words)
    are (Ok sum) taken = frame_is sum taken
    are (Err at) h = tt

    pub first_over : (r : Result ClockRange ℕ)
        → IfErr r (IsOver t (frame_word m.rom.machine m.frame) list kept (record { kind = Frame; at = 0; scale = Any }) limit)
        → IfErr r (IsFirstOver t m list limit)
    first_over (Ok sum) h = tt
    first_over (Err at) o = frame_over at o

    pub on_circuit : IsMemory m → IsSomeCertificate list → AreGood m.rom list → (r : Result ClockRange ℕ)
        → IfOk r (λ sum. sum ≡ frame_sum (clocks_known t) m list words) → m.rom.machine ≡ Board
        → IfOk r (TakenOnCircuit (clocks_of_instr t) m)
    on_circuit mem certificate all (Ok sum) is board = frame_on_circuit t m list words sum mem certificate all gf is board
    on_circuit mem certificate all (Err at) is board = tt
