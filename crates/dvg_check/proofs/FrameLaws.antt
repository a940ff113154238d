-- A frame from any start to its halt.
use Rattle.dvg_check.proofs.Common.{Machine, List, Option, Some, arith, refl, length, inl, inr, ap, sym, subst, ◌≡◌, ◌+◌, ◌≤◌, ◌⊎◌, ◌∷◌, ◌++◌, ◌∙◌, ℕ, [], AllByRecursion, Contains, InWindow, origin, word_count, cell_at, State, Reached, Running, Halted, places, start, next_status, Memory, InRom, word_at, IsMemory, frame_word, Window, Point, Holds, Format, Instr, Halt, End, Rel, Entry, Empty, Counts, LitFits, Stretch, LeadsTo, place_before, frame_context, depth_under, depth_before, callee, words_before, seen_at, Good, AllKeep, FramePlaceKeeps, FrameKeeps, CellKeeps, GoodFrame, Ends, FrameWhy, Mode, Bound, Exact, Item, Frame, length-append, InFrame, GoodIsSafe, ExactIsExact, all_append, all_map, all_right, named_listed, word_count-some}
use Rattle.dvg_check.specs.declared.fault.FrameWhy.TheVariants as frame
use Rattle.dvg_check.proofs.Onward.{Stands}
use Rattle.dvg_check.proofs.Runs.{reached_on, counts_sum, counts_same, rest_of, grows, stretch_as}
use Rattle.dvg_check.proofs.ShapeLaws.{Facts, all_shapes, arrive}
use Rattle.dvg_check.proofs.Modes.{in_bound}
use Rattle.dvg_check.proofs.Steps.{next_there, own, stands}

-- ---- a frame's known place is never relative

abbrev NotRelative : End → Type 0
NotRelative (Rel x y) = ⊥
NotRelative k = Unit {0}

frame_place : (a : Machine) (list : List Entry) (items : List Item) → NotRelative (place_before (frame_context a list) items)
frame_place a list [] = tt
frame_place a list (i ∷ items) = grind (arith, (frame_place a list items))

-- ---- depth

depth_under-four : (instr : Instr) (o : Option Entry) → ((f : Entry) → o ≡ Some f → f.depth ≤ 3) → depth_under instr o ≤ 4
depth_under-four instr o h = grind (arith)

depth_before-four : (a : Machine) (list : List Entry) → ((e : Entry) → Contains list e → e.depth ≤ 3) → (items : List Item)
    → depth_before (frame_context a list) items ≤ 4
depth_before-four a list three [] = omega arith
depth_before-four a list three (i ∷ earlier) =
    omega (
      arith,
      depth_under-four i.instr (callee (frame_context a list) earlier i.instr) (λ f n. three f (named_listed list _ _ f n)),
      depth_before-four a list three earlier,
    )

-- ---- the halt

-- a whole run, from a start to a halt
record Halts (mode : Mode) (m : Memory) (w : Window) (words depth : ℕ) (s : State) : Type 0 where
  n : ℕ
  h : State
  within : n ≤ words
  reached : Reached m n (Running s) (Halted h)
  few : Counts mode (length h.fetched) words
  mapped : AllByRecursion (λ p. InFrame m.frame p ⊎ InRom m.rom.map p) h.fetched
  stored : Counts mode h.max_stack depth
  lit : AllByRecursion (Ends (InWindow w)) h.strokes

halt : (mode : Mode) (m : Memory) (w : Window) (most words depth at : ℕ) (format : Format) (base p : Point) (scale : ℕ) (t : State)
    → cell_at (word_at m) at ≡ Holds format Halt
    → AllByRecursion (λ q. InFrame m.frame q ⊎ InRom m.rom.map q) (places format at) → t.pc ≡ at → words ≡ most + word_count format
    → Stretch mode m (λ q. InFrame m.frame q ⊎ InRom m.rom.map q) (LitFits w Empty base) most depth (start p scale) t
    → Halts mode m w words depth (start p scale)
halt mode m w most words depth at format base p scale t is mine pc sum c =
    let Ok : ℕ → Type 0 = λ q. InFrame m.frame q ⊎ InRom m.rom.map q in
    let h : State = record t { fetched = places format t.pc ++ t.fetched } in
    let count : length (places format t.pc) ≡ word_count format = grind (arith) in
    let step : next_status m t ≡ Halted h = next_there m t format Halt (ap (cell_at (word_at m)) pc ∙ is) in
    record {
      n = c.steps + 1;
      h = h;
      within = omega (arith, c.within, word_count-some format);
      reached = reached_on m c.steps 1 (Running (start p scale)) (Running t) (Halted h) c.reached (Halted h, step, refl);
      few = counts_sum mode (length c.words) (word_count format) (length h.fetched) most (word_count format) words
          (omega (arith, length-append (places format t.pc) t.fetched, ap length c.fetched, length-append c.words [], count)) c.few
          (counts_same mode _ _ refl) (counts_same mode _ _ (sym sum));
      mapped = all_append Ok (places format t.pc) t.fetched (subst (λ q. AllByRecursion Ok (places format q)) (sym pc) mine)
          (subst (AllByRecursion Ok) (sym c.fetched) (all_append Ok c.words [] c.mapped tt));
      stored = (let stored = c.stored in grind (arith));
      lit = subst (AllByRecursion (Ends (InWindow w))) (sym c.drew)
          (all_append (Ends (InWindow w)) c.strokes []
          (all_map (LitFits w Empty base) (Ends (InWindow w)) c.strokes (λ k h. grind (arith)) c.lit) tt);
    }

-- ---- the whole

module _ (mode : Mode) (m : Memory) (w : Window) (list : List Entry) (budget : ℕ) (mem : IsMemory m) (good : Good mode w m.rom list)
    (keep : AllKeep Frame (frame_word m.rom.machine m.frame) 0 (FramePlaceKeeps w m.rom.machine m.frame list budget)) where
  frame_facts : (earlier : List Item) (i : Item) → LeadsTo Frame (frame_word m.rom.machine m.frame) 0 earlier i.at
      → cell_at (frame_word m.rom.machine m.frame) i.at ≡ Holds i.format i.instr
      → Facts mode m w (frame_context m.rom.machine list) Empty (λ q. InFrame m.frame q ⊎ InRom m.rom.map q) earlier i
  frame_facts earlier i lead is =
      let c = frame_context m.rom.machine list in
      let rule = λ (why : FrameWhy). subst
      (λ x. CellKeeps frame.Unmapped frame.Odd (λ j. FrameKeeps w budget (seen_at c earlier j)) i.at x why) is
      (keep earlier i.at lead why) in
      record {
        moves = refl;
        own = all_map (InFrame m.frame) (λ q. InFrame m.frame q ⊎ InRom m.rom.map q) (places i.format i.at) (λ q h. inl h)
            (own Frame m i.at i.format i.instr mem is);
        fits = grind (
          arith,
          (rule frame.BeamUnknown),
          (rule frame.ScaleUnknown),
          (rule frame.OffScreen),
          (rule frame.NoEntry),
          (frame_place m.rom.machine list earlier),
        );
        calls = λ f n. all_shapes mode m w list mem good f (named_listed list _ _ f n);
      }

run : (mode : Mode) (m : Memory) (w : Window) (list : List Entry) (budget words depth : ℕ) → IsMemory m
    → ((e : Entry) → Contains list e → e.depth ≤ 3) → Good mode w m.rom list → GoodFrame w m.rom.machine m.frame list budget words depth
    → (p : Point) (scale : ℕ) → Halts mode m w words depth (start p scale)
run mode m w list budget words depth mem three good gf p scale =
    let c = frame_context m.rom.machine list in
    let Ok : ℕ → Type 0 = λ q. InFrame m.frame q ⊎ InRom m.rom.map q in
    let st : Stands c origin [] [] 0 (start p scale) =
    record { pc = refl; return_stack = refl; room = omega arith; place = tt; scale = tt } in
    let a = arrive mode m w c Empty origin Ok 0 [] (start p scale) mem (λ q h. inr h)
    (frame_facts mode m w list budget mem good gf.keeps) st gf.items gf.at gf.leads
    (omega (arith, depth_before-four m.rom.machine list three gf.items)) in
    let mine = all_map (InFrame m.frame) Ok (places gf.format gf.at) (λ q h. inl h) (own Frame m gf.at gf.format Halt mem gf.halts) in
    let come = stretch_as mode m Ok (LitFits w Empty origin) (words_before c gf.items) (words_before c gf.items) _ depth (start p scale)
    a.0 refl (omega (arith, gf.depth_is)) a.1 in
    halt mode m w (words_before c gf.items) words depth gf.at gf.format origin p scale a.0
    (stands Frame m gf.at gf.format Halt mem gf.halts) mine a.2.pc gf.count_is come

pub good_is_safe : GoodIsSafe
good_is_safe mode m w list budget words depth mem three good gf =
    let bound = in_bound w m.rom list mode good in
    record {
      four = omega (arith, gf.depth_is, depth_before-four m.rom.machine list three gf.items);
      halts = λ p scale g. let r = run Bound m w list budget words depth mem three bound gf p scale in (r.n, r.h, r.within, r.reached);
      each = λ p scale g n a reached.
          let r = run Bound m w list budget words depth mem three bound gf p scale in
          grind (arith, (rest_of m n r.n (Running (start p scale)) a r.h reached r.reached), length-append, all_right, grows);
    }

pub exact_is_exact : ExactIsExact
exact_is_exact m w list budget words depth mem three good gf p scale n h g reached =
    grind (arith, (run Exact m w list budget words depth mem three good gf p scale), rest_of, (start p scale))
