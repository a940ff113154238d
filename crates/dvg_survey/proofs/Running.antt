-- The runs of a good frame over two ROMs whose shapes read the same.
use Rattle.dvg_survey.proofs.Common.{◌≡◌, ℕ, zero, suc, ◌+◌, ◌<◌, ◌∙◌, ◌++◌, List, [], ◌∷◌, nat_lt, Some, Contains, refl, sym, subst, inr, arith, nat_tests, AllByRecursion, Rom, IsMemory, word_count, cell_at, State, Status, Running, Reached, after_instruction, places, Cell, Holds, Format, Short, Long, Instr, Entry, Key, Item, Shape, Frame, LeadsTo, address_after, target, scale_before, shape_context, frame_context, seen_at, listed_at, GoodFrame, CellKeeps, ShapeKeeps, FrameKeeps, Exact, HasEntry, FrameMade, FrameAsksFor, ReachesTouched, Window}
use Rattle.dvg_words.specs.declared.beam.Point.{Point}
use Rattle.dvg_words.specs.Memory.{Memory}
use Rattle.dvg_words.specs.Generator.{start}
use Rattle.dvg_words.specs.declared.instruction.Instr.TheVariants.{Draw as Draws, Labs, Halt, Jsrl, Rtsl, Jmpl}
use Rattle.dvg_items.specs.declared.item.Kind.{Kind}
use Rattle.dvg_check.specs.declared.fault.ShapeWhy.TheVariants as shape
use Rattle.dvg_check.specs.declared.fault.FrameWhy.TheVariants as frame
use Rattle.dvg_check.specs.Laws.{word_of}
use Rattle.dvg_check.proofs.Steps.{stands, next_there}
use Rattle.dvg_check.proofs.Onward.{long_there}
use Rattle.dvg_survey.specs.Laws.{SameRuns}
use Rattle.dvg_survey.proofs.Same.{with_words, cell_there}
use Rattle.dvg_survey.proofs.Carrying.{each_untouched, both_ways}

-- ---- an instruction stands at a place that keeps the first two rules

record Instruction (cell : Cell) : Type 0 where
  format : Format
  instr : Instr
  is : cell ≡ Holds format instr

instruction_at : {Why : Type 0} (missing odd : Why) (keeps : Item → Why → Type 0) (p : ℕ) (cell : Cell)
    → CellKeeps missing odd keeps p cell missing → CellKeeps missing odd keeps p cell odd → Instruction cell
instruction_at missing odd keeps p cell k l = grind (arith)

-- where items begin: those of a shape of the list, or those of the frame
data Begin (list : List Entry) : Type 0 where
  OfShape : (e : Entry) → Contains list e → Begin list
  OfFrame : Begin list

abbrev kind_of : {list : List Entry} → Begin list → Kind
kind_of (OfShape e c) = Shape
kind_of OfFrame = Frame

abbrev first_of : {list : List Entry} → Begin list → ℕ
first_of (OfShape e c) = e.addr
first_of OfFrame = 0

module _ (rom : Rom) (others : List ℕ) (words : List ℕ) (list : List Entry)
    (untouched : ReachesTouched rom (with_words rom others) list → ⊥) (made : FrameMade rom words list)
    (mem : IsMemory (record { frame = words; rom = rom })) (mem_there : IsMemory (record { frame = words; rom = with_words rom others }))
    (w : Window) (budget count depth : ℕ) (good : GoodFrame w rom.machine words list budget count depth) where
  abbrev here : Memory
  here = record { frame = words; rom = rom }

  abbrev there : Memory
  there = record { frame = words; rom = with_words rom others }

  abbrev Leads : Begin list → List Item → ℕ → Type 0
  Leads from earlier p = LeadsTo (kind_of from) (word_of (kind_of from) here) (first_of from) earlier p

  -- the place of an item
  record IsOn (p : ℕ) : Type 0 where
    from : Begin list
    earlier : List Item
    leads : Leads from earlier p

  at_entry : (to : ℕ) (scale : Key) → HasEntry list to scale → IsOn to
  at_entry to scale h =
      let l = listed_at list to scale h.0 h.1 in record { from = OfShape h.0 l.listed; earlier = []; leads = sym l.addr_is }

  called : (from : Begin list) (earlier : List Item) (i : Item) → Leads from earlier i.at
      → cell_at (word_of (kind_of from) here) i.at ≡ Holds i.format i.instr → (to : ℕ) → target (kind_of from) i.instr ≡ Some to → IsOn to
  called (OfShape e c) earlier i leads is to goes = at_entry to _ ((made.each e c).keyed earlier i leads is to goes)
  called OfFrame earlier i leads is to goes =
      let scale = scale_before (frame_context rom.machine list) earlier in
      let asks : FrameAsksFor rom.machine words list to scale =
      record { earlier = earlier; item = i; leads = leads; stands = is; target_is = goes; scale_is = refl } in
      at_entry to scale (made.rooted to scale (inr (words, (0, omega arith, refl), asks)))

  instruction : (from : Begin list) (earlier : List Item) (p : ℕ) → Leads from earlier p
      → Instruction (cell_at (word_of (kind_of from) here) p)
  instruction (OfShape e c) earlier p leads =
      let keeps = (made.each e c).keeps earlier p leads in
      instruction_at shape.Unmapped shape.Odd (λ i. ShapeKeeps Exact w e (seen_at (shape_context rom.machine list e) earlier i)) p _
      (keeps shape.Unmapped w (λ (e : shape.Unmapped ≡ shape.OffScreen). cc e))
      (keeps shape.Odd w (λ (e : shape.Odd ≡ shape.OffScreen). cc e))
  instruction OfFrame earlier p leads =
      let keeps = good.keeps earlier p leads in
      instruction_at frame.Unmapped frame.Odd (λ i. FrameKeeps w budget (seen_at (frame_context rom.machine list) earlier i)) p _
      (keeps frame.Unmapped) (keeps frame.Odd)

  same_there : (from : Begin list) (earlier : List Item) (p : ℕ) → Leads from earlier p
      → cell_at (word_of (kind_of from) here) p ≡ cell_at (word_of (kind_of from) there) p
  same_there (OfShape e c) earlier p leads = cell_there rom others e.addr (each_untouched rom others list untouched e c) earlier p leads
  same_there OfFrame earlier p leads = refl

  jumped : (from : Begin list) (earlier : List Item) (p to : ℕ) (format : Format) → Leads from earlier p
      → cell_at (word_of (kind_of from) here) p ≡ Holds format (Jmpl to) → IsOn to
  jumped (OfShape e c) earlier p to format leads is =
      called (OfShape e c) earlier (record { at = p; format = format; instr = Jmpl to }) leads is to refl
  jumped OfFrame earlier p to format leads is =
      let keeps = good.keeps earlier p leads frame.BackJump in
      let forward : p < to = grind (arith, is, keeps) in
      record {
        from = OfFrame;
        earlier = record { at = p; format = format; instr = Jmpl to } ∷ earlier;
        leads =
            (leads, is, grind (arith, nat_tests, forward));
      }

  one_word : (from : Begin list) (p to : ℕ) (format : Format) → cell_at (word_of (kind_of from) here) p ≡ Holds format (Jsrl to)
      → p + word_count format ≡ p + 1
  one_word from p to Short is = refl
  one_word from p to Long is = absurd (long_there (word_of (kind_of from) here) p (Jsrl to) is)

  -- ---- the step

  -- the next word and all return places are places of items
  abbrev OnStatus : Status → Type 0
  OnStatus (Running s) = IsOn s.pc × AllByRecursion IsOn s.return_stack
  OnStatus other = Unit {0}

  module _ (s : State) (on : IsOn s.pc) (all : AllByRecursion IsOn s.return_stack) where
    next : (format : Format) (instr : Instr) (to : ℕ) → cell_at (word_of (kind_of on.from) here) s.pc ≡ Holds format instr
        → address_after (kind_of on.from) s.pc format instr ≡ Some to → IsOn to
    next format instr to is goes =
        record { from = on.from; earlier = record { at = s.pc; format = format; instr = instr } ∷ on.earlier; leads = (on.leads, is, goes) }

    on_after : (format : Format) (instr : Instr) → cell_at (word_of (kind_of on.from) here) s.pc ≡ Holds format instr
        → OnStatus (after_instruction rom.machine instr format (record s { fetched = places format s.pc ++ s.fetched }))
    on_after format (Draws d) is = (next format (Draws d) _ is refl, all)
    on_after format (Labs x y gscale) is = (next format (Labs x y gscale) _ is refl, all)
    on_after format Halt is = tt
    on_after format (Jsrl to) is =
        let back = subst IsOn (one_word on.from s.pc to format is) (next format (Jsrl to) _ is refl) in
        grind (
          arith,
          nat_lt,
          back,
          (called on.from on.earlier (record { at = s.pc; format = format; instr = Jsrl to }) on.leads is to
              refl),
        )
    on_after format Rtsl is = grind (arith)
    on_after format (Jmpl to) is = (jumped on.from on.earlier s.pc to format on.leads is, all)

  run_there : (steps : ℕ) (from to : Status) → OnStatus from → Reached here steps from to → Reached there steps from to
  run_there zero from to on r = r
  run_there (suc n) (Running s) to on r =
      let o = on.0 in
      let k = kind_of o.from in
      let i = instruction o.from o.earlier s.pc o.leads in
      let now = sym (next_there here s i.format i.instr (stands k here s.pc i.format i.instr mem i.is)) ∙ r.1 in
      let is_there = stands k there s.pc i.format i.instr mem_there (sym (same_there o.from o.earlier s.pc o.leads) ∙ i.is) in (
        r.0,
        next_there there s i.format i.instr is_there ∙ now,
        run_there n r.0 to (subst OnStatus now (on_after s o on.1 i.format i.instr i.is)) r.2,
      )
  run_there (suc n) from to on r = absurd r.1

  pub runs_there : (place : Point) (scale steps : ℕ) (s : Status) → Reached here steps (Running (start place scale)) s
      → Reached there steps (Running (start place scale)) s
  runs_there place scale steps s =
      run_there steps (Running (start place scale)) s (record { from = OfFrame; earlier = []; leads = refl }, tt)

-- ---- the law

pub same_runs : SameRuns
same_runs rom other words list u mem mem_other w budget count depth good place scale steps s =
    let both = both_ways rom other [] (words ∷ []) list u
    (λ a b. a.machine ≡ rom.machine → IsMemory (record { frame = words; rom = a }) → IsMemory (record { frame = words; rom = b })
    → Reached (record { frame = words; rom = a }) steps (Running (start place scale)) s
    → Reached (record { frame = words; rom = b }) steps (Running (start place scale)) s)
    (λ a others untouched made same mem mem_b. runs_there a others words list untouched made mem mem_b w budget count depth
    (subst (λ m. GoodFrame w m words list budget count depth) (sym same) good) place scale steps s) in
    (both.0 refl mem mem_other, both.1 (sym u.alike.machine) mem_other mem)
