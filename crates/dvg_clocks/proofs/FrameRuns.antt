-- A frame from any start to its halt.
use Rattle.dvg_clocks.proofs.Common.{◌≡◌, ℕ, ◌+◌, ◌≤◌, zero, suc, List, [], ◌∷◌, ◌++◌, Option, Some, None, refl, sym, ◌∙◌, ap, subst, arith, Contains, Memory, State, Status, Running, Halted, Reached, start, IsMemory, frame_word, word_at, cell_at, next_status, places, Holds, Format, Instr, Halt, Point, origin, Entry, Item, Frame, LeadsTo, Context, frame_context, callee, scale_before, depth_before, depth_under, named_listed, Window, Machine, Mode, Good, GoodFrame, CellKeeps, FrameKeeps, FrameWhy, seen_at, Stands, Measure, Forecast, ClockRange, IsInRange, IsRight, plus, taken_before, frame_taken, taken_at, taken_by, Took, IsSumOfItems}
use Rattle.dvg_check.specs.declared.fault.FrameWhy.TheVariants as frame
use Rattle.dvg_check.proofs.Runs.{reached_on, rest_of}
use Rattle.dvg_check.proofs.Steps.{next_there, stands}
use Rattle.dvg_clocks.proofs.Adding.{taken_on, in_plus}
use Rattle.dvg_clocks.proofs.ShapeRuns.{Facts, arrive, all_take}

-- ---- depth: these two are FrameLaws' of dvg_check, which are private there

depth_under-four : (instr : Instr) (o : Option Entry) → ((f : Entry) → o ≡ Some f → f.depth ≤ 3) → depth_under instr o ≤ 4
depth_under-four instr o h = grind (arith)

depth_before-four : (a : Machine) (list : List Entry) → ((e : Entry) → Contains list e → e.depth ≤ 3) → (items : List Item)
    → depth_before (frame_context a list) items ≤ 4
depth_before-four a list three [] = omega arith
depth_before-four a list three (i ∷ earlier) =
    omega (
      arith,
      depth_under-four i.instr (callee (frame_context a list) earlier i.instr) (λ f n. three f (named_listed list _ _ f n)),
      depth_before-four a list three earlier,
    )

-- ---- the halt

-- a whole run, from a state to a halt
pub record Halts (measure : Measure) (m : Memory) (range : ClockRange) (s : State) : Type 0 where
  pub n : ℕ
  pub h : State
  pub reached : Reached m n (Running s) (Halted h)
  pub took : IsInRange range (taken_by measure m n (Running s))

halt : (measure : Measure) (forecast : Forecast) (by_entry : Entry → ClockRange) (m : Memory) (c : Context) (items : List Item) (at : ℕ)
    (format : Format) (base : Point) (s t : State) → IsRight measure forecast → IsMemory m → c.kind ≡ Frame
    → cell_at (frame_word m.rom.machine m.frame) at ≡ Holds format Halt
    → Took measure m (taken_before forecast by_entry c items) s t → Stands c base [] items at t
    → Halts measure m (taken_before forecast by_entry c (record { at = at; format = format; instr = Halt } ∷ items)) s
halt measure forecast by_entry m c items at format base s t right mem kind is took st =
    let h : State = record t { fetched = places format t.pc ++ t.fetched } in
    let there : cell_at (word_at m) t.pc ≡ Holds format Halt = ap (cell_at (word_at m)) st.pc ∙ stands Frame m at format Halt mem is in
    let step : next_status m t ≡ Halted h = next_there m t format Halt there in
    let value : measure format Halt t.scale ≡ taken_by measure m 1 (Running t) =
    omega (arith, ap (λ x. taken_at measure x t.scale) there) in
    let last = subst (IsInRange (forecast format Halt (scale_before c items))) value
    (right format Halt (scale_before c items) t.scale st.scale) in
    let whole = in_plus (taken_before forecast by_entry c items) (forecast format Halt (scale_before c items)) _ _ took.took last in
    let all = subst (IsInRange (plus (taken_before forecast by_entry c items) (forecast format Halt (scale_before c items))))
    (sym (taken_on measure m took.steps 1 (Running s) (Running t) took.reached)) whole in
    let none : callee c items Halt ≡ None = refl in
    record {
      n = took.steps + 1;
      h = h;
      reached = reached_on m took.steps 1 (Running s) (Running t) (Halted h) took.reached (Halted h, step, refl);
      took = record { least = omega (arith, all.least); most = omega (arith, all.most) };
    }

-- ---- the whole

module _ (measure : Measure) (forecast : Forecast) (right : IsRight measure forecast) (by_entry : Entry → ClockRange) (mode : Mode)
    (m : Memory) (w v : Window) (list : List Entry) (budget words depth : ℕ) (mem : IsMemory m)
    (three : (e : Entry) → Contains list e → e.depth ≤ 3) (good : Good mode w m.rom list)
    (sums : IsSumOfItems forecast m.rom list by_entry) (gf : GoodFrame v m.rom.machine m.frame list budget words depth) where
  frame_facts : (earlier : List Item) (i : Item) → LeadsTo Frame (frame_word m.rom.machine m.frame) 0 earlier i.at
      → cell_at (frame_word m.rom.machine m.frame) i.at ≡ Holds i.format i.instr
      → Facts measure by_entry m (frame_context m.rom.machine list) earlier i
  frame_facts earlier i lead is =
      let c = frame_context m.rom.machine list in
      let rule = λ (why : FrameWhy). subst
      (λ x. CellKeeps frame.Unmapped frame.Odd (λ j. FrameKeeps v budget (seen_at c earlier j)) i.at x why) is
      (gf.keeps earlier i.at lead why) in
      record {
        named = rule frame.NoEntry;
        calls =
            λ f n. all_take measure forecast by_entry mode m w list right mem good sums f (named_listed list _ _ f n);
      }

  pub run : (p : Point) (scale : ℕ) → Halts measure m (frame_taken forecast by_entry gf) (start p scale)
  run p scale =
      let c = frame_context m.rom.machine list in
      let st : Stands c origin [] [] 0 (start p scale) =
      record { pc = refl; return_stack = refl; room = omega arith; place = tt; scale = tt } in
      let a = arrive measure forecast right by_entry origin m mem c refl 0 [] (start p scale) frame_facts st gf.items gf.at gf.leads
      (omega (arith, depth_before-four m.rom.machine list three gf.items)) in
      halt measure forecast by_entry m c gf.items gf.at gf.format origin (start p scale) a.0 right mem refl gf.halts a.1 a.2

-- a run to a halt has one length
same_length : (m : Memory) (n k : ℕ) (a : Status) (h g : State) → Reached m n a (Halted h) → Reached m k a (Halted g) → n ≡ k
same_length m n k a h g r q = let rest = rest_of m n k a (Halted h) g r q in ends rest.0 rest.1 rest.2 where
  ends : (j : ℕ) → n + j ≡ k → Reached m j (Halted h) (Halted g) → n ≡ k
  ends zero e r = omega (arith, e)
  ends (suc j) e r = absurd r.1
