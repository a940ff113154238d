-- Where a run stands behind a sound front of a frame, and so what is known of where its draws lead.
use Rattle.dvg_recipe.proofs.Common.{◌≡◌, ◌≤◌, ◌+◌, ◌∙◌, ℕ, List, [], ◌∷◌, Option, None, Some, refl, sym, ap, subst, arith, inl, inr, ◌⊎◌, Contains, LeadsTo}
use Rattle.dvg_check.proofs.Common.{Machine, Window, Entry, Item, Known, Instr, Draws, Holds, Missing, Odd, Format, Cell, Frame, Memory, IsMemory, InFrame, InRom, frame_word, State, Running, Reached, start, Point, origin, PlaceFits, End, Rel, Abs, Lost, Empty, places, frame_context, place_before, callee, depth_before, depth_under, named_listed, seen_at, Good, CellKeeps, FrameKeeps, FramePlaceKeeps, Context, word_count, all_map, target, IsDrawOrLabs}
unfoldable use Rattle.dvg_check.proofs.Common.{cell_at}
use Rattle.dvg_check.specs.declared.fault.FrameWhy.{FrameWhy}
use Rattle.dvg_check.specs.declared.fault.FrameWhy.TheVariants as frame
use Rattle.dvg_check.specs.declared.fault.Mode.TheVariants.{Exact}
use Rattle.dvg_check.proofs.Onward.{Stands, over_item}
use Rattle.dvg_check.proofs.Runs.{reached_on}
use Rattle.dvg_check.proofs.ShapeLaws.{Facts, all_shapes}
use Rattle.dvg_check.proofs.Steps.{own, one_item}
use Rattle.dvg_words.specs.declared.machine.Machine.TheVariants.{Board}
use Rattle.dvg_words.specs.Memory.{Rom}
use Rattle.dvg_items.specs.Items.{AtEachOf}
use Rattle.dvg_items.specs.Known.{known_before, known_past, callee_at}
use Rattle.dvg_make.specs.Made.{AllMade}
use Rattle.dvg_recipe.specs.Recipes.{PlaceSpan, IsPointIn, RunsInto}
use Rattle.dvg_recipe.specs.Members.{Names, IsEndIn, LeadsInto}
use Rattle.dvg_recipe.specs.Private.Judging.{IsNotBeside, IsKnownAlike, KnownInto}
use Rattle.dvg_recipe.proofs.Knowing.{known_once}
use Rattle.dvg_recipe.proofs.Once.{IsStraight, once}

-- ---- what is known of a frame is never relative, and calls go four deep at most

abbrev NotRelative : End → Type 0
NotRelative (Rel x y) = ⊥
NotRelative k = Unit {0}

frame_place : (a : Machine) (list : List Entry) (items : List Item) → NotRelative (place_before (frame_context a list) items)
frame_place a list [] = tt
frame_place a list (i ∷ items) = grind (arith, (frame_place a list items))

under_four : (instr : Instr) (o : Option Entry) → ((f : Entry) → o ≡ Some f → f.depth ≤ 3) → depth_under instr o ≤ 4
under_four instr o h = grind (arith)

before_four : (a : Machine) (list : List Entry) → ((e : Entry) → Contains list e → e.depth ≤ 3) → (items : List Item)
    → depth_before (frame_context a list) items ≤ 4
before_four a list three [] = omega arith
before_four a list three (i ∷ earlier) =
    omega (
      arith,
      under_four i.instr (callee (frame_context a list) earlier i.instr) (λ f n. three f (named_listed list _ _ f n)),
      before_four a list three earlier,
    )

-- ---- along a front

module _ (m : Memory) (w : Window) (list : List Entry) (budget : ℕ) (mem : IsMemory m) (good : Good Exact w m.rom list)
    (three : (e : Entry) → Contains list e → e.depth ≤ 3) where
  abbrev c : Context
  c = frame_context m.rom.machine list

  abbrev IsOk : ℕ → Type 0
  IsOk q = InFrame m.frame q ⊎ InRom m.rom.map q

  abbrev Keeps : List Item → ℕ → Type 0
  Keeps earlier p = (why : FrameWhy) → FramePlaceKeeps w m.rom.machine m.frame list budget earlier p why

  facts : (earlier : List Item) (i : Item) → LeadsTo Frame (frame_word m.rom.machine m.frame) 0 earlier i.at
      → cell_at (frame_word m.rom.machine m.frame) i.at ≡ Holds i.format i.instr → Keeps earlier i.at → Facts Exact m w c Empty IsOk earlier i
  facts earlier i lead is keep =
      let rule = λ (why : FrameWhy). subst
      (λ (x : Cell). CellKeeps frame.Unmapped frame.Odd (λ j. FrameKeeps w budget (seen_at c earlier j)) i.at x why) is (keep why) in
      record {
        moves = refl;
        own = all_map (InFrame m.frame) IsOk (places i.format i.at) (λ q h. inl h) (own Frame m i.at i.format i.instr mem is);
        fits = grind (
          arith,
          (rule frame.BeamUnknown),
          (rule frame.ScaleUnknown),
          (rule frame.OffScreen),
          (rule frame.NoEntry),
          (frame_place m.rom.machine list earlier),
        );
        calls = λ f n. all_shapes Exact m w list mem good f (named_listed list _ _ f n);
      }

  -- the run from a start comes to the word behind the items
  record Comes (s : State) (items : List Item) (p : ℕ) : Type 0 where
    t : State
    n : ℕ
    reached : Reached m n (Running s) (Running t)
    st : Stands c origin [] items p t

  comes : (place : Point) (scale : ℕ) (items : List Item) (p : ℕ) → LeadsTo Frame (frame_word m.rom.machine m.frame) 0 items p
      → AtEachOf Keeps items → Comes (start place scale) items p
  comes place scale [] p lead keep = record {
    t = start place scale;
    n = 0;
    reached = refl;
    st = record { pc = sym lead; return_stack = refl; room = omega arith; place = tt; scale = tt };
  }
  comes place scale (i ∷ earlier) p lead keep =
      let a = comes place scale earlier i.at lead.0 keep.0 in
      let f = facts earlier i lead.0 lead.1 keep.1 in
      let b = over_item Exact m w Empty origin IsOk (λ q h. inr h) mem c f.moves 0 earlier i.at i.format i.instr p [] [] a.t
      (inl (lead.2, refl)) f.own lead.0 lead.1 f.fits
      (omega (arith, under_four i.instr (callee c earlier i.instr) (λ g n. three g (named_listed list _ _ g n)))) f.calls a.st in
      record {
        t = b.0;
        n = a.n + b.1.steps;
        reached = reached_on m a.n b.1.steps (Running (start place scale)) (Running a.t) (Running b.0) a.reached b.1.reached;
        st = b.2;
      }

  -- and the draw behind them leads to a place that is as it is known
  record Drawn (before : List Item) (i : Item) (p : ℕ) : Type 0 where
    t : State
    n : ℕ
    reached : Reached m n (Running (start origin 0)) (Running t)
    pc : t.pc ≡ p
    return_stack : t.return_stack ≡ []
    place : PlaceFits (place_before c (i ∷ before)) origin t.place

  drawn : (before : List Item) (i : Item) (p : ℕ) → LeadsTo Frame (frame_word m.rom.machine m.frame) 0 (i ∷ before) p
      → AtEachOf Keeps before → (d : _) → i.instr ≡ Draws d → i.at + word_count i.format ≡ p → Drawn before i p
  drawn before i p lead keep d is goes =
      let a = comes origin 0 before i.at lead.0 keep in
      let o = one_item m c 0 before i origin a.t mem refl lead.0 lead.1 (subst IsDrawOrLabs (sym is) tt) a.st.pc a.st.place a.st.scale in
      record {
        t = o.0;
        n = a.n + 1;
        reached = reached_on m a.n 1 (Running (start origin 0)) (Running a.t) (Running o.0) a.reached (Running o.0, o.1.step, refl);
        pc = o.1.pc ∙ goes;
        return_stack = o.1.return_stack ∙ a.st.return_stack;
        place = o.1.place;
      }

  -- ---- wherever a good frame's run stands

  holds_there : (K : Item → FrameWhy → Type 0) (p : ℕ) (cell : Cell) → CellKeeps frame.Unmapped frame.Odd K p cell frame.Unmapped
      → CellKeeps frame.Unmapped frame.Odd K p cell frame.Odd → (format : Format) × (instr : Instr) × (cell ≡ Holds format instr)
  holds_there K p (Holds format instr) a b = (format, instr, refl)
  holds_there K p Missing a b = absurd (a refl)
  holds_there K p Odd a b = absurd (b refl)

  module _ (keep : (earlier : List Item) (p : ℕ) → LeadsTo Frame (frame_word m.rom.machine m.frame) 0 earlier p → Keeps earlier p) where
    at_each : (items : List Item) (p : ℕ) → LeadsTo Frame (frame_word m.rom.machine m.frame) 0 items p → AtEachOf Keeps items
    at_each [] p lead = tt
    at_each (i ∷ earlier) p lead = (at_each earlier i.at lead.0, keep earlier i.at lead.0)

    straight : IsStraight m
    straight = record {
      memory = mem;
      holds = λ items p lead.
          let h = holds_there (λ j. FrameKeeps w budget (seen_at c items j)) p (cell_at (frame_word m.rom.machine m.frame) p)
          (keep items p lead frame.Unmapped) (keep items p lead frame.Odd) in (
            h.0,
            h.1,
            h.2,
            subst
                (λ (x : Cell). CellKeeps frame.Unmapped frame.Odd (λ j. FrameKeeps w budget (seen_at c items j)) p x frame.BackJump) h.2
                (keep items p lead frame.BackJump),
          );
    }

    pub place_once : (place : Point) (scale steps : ℕ) (s : State) → Reached m steps (Running (start place scale)) (Running s)
        → (items : List Item) → LeadsTo Frame (frame_word m.rom.machine m.frame) 0 items s.pc → s.return_stack ≡ []
        → PlaceFits (place_before c items) origin s.place
    place_once place scale steps s reached items lead none =
        let t = comes place scale items s.pc lead (at_each items s.pc lead) in
        let same = once m straight items (Running (start place scale)) t.n steps t.t s t.reached reached
        (subst (λ q. LeadsTo Frame (frame_word m.rom.machine m.frame) 0 items q) (sym t.st.pc) lead) lead t.st.return_stack none in
        subst (λ (x : State). PlaceFits (place_before c items) origin x.place) same t.st.place

-- ---- by runs

-- a place that is known as it is, and in the rectangle, is not beside it
fits_in : (to : PlaceSpan) (e : End) (base p : Point) → PlaceFits e base p → IsPointIn to p → IsNotBeside to e
fits_in to (Rel x y) base p is there = tt
fits_in to (Abs x y) base p is there = subst (IsPointIn to) is there
fits_in to Lost base p is there = tt

module _ (rom : Rom) (board : rom.machine ≡ Board) (w : Window) (list : List Entry) (budget : ℕ) (good : Good Exact w rom list)
    (three : (e : Entry) → Contains list e → e.depth ≤ 3) (words : List ℕ) (mem : IsMemory (record { frame = words; rom = rom })) where
  abbrev memory : Memory
  memory = record { frame = words; rom = rom }

  on_machine : (machine : Machine) → rom.machine ≡ machine → (before : List Item) (i : Item) (p : ℕ)
      → LeadsTo Frame (frame_word machine words) 0 (i ∷ before) p
      → AtEachOf (λ earlier q. (why : FrameWhy) → FramePlaceKeeps w machine words list budget earlier q why) before
      → (d : _) → i.instr ≡ Draws d → i.at + word_count i.format ≡ p → Drawn memory w list budget mem good three before i p
  on_machine machine is before i p lead keep d draws goes =
      drawn memory w list budget mem good three before i p
      (subst (λ (a : Machine). LeadsTo Frame (frame_word a words) 0 (i ∷ before) p) (sym is) lead)
      (subst (λ (a : Machine). AtEachOf (λ earlier q. (why : FrameWhy) → FramePlaceKeeps w a words list budget earlier q why) before)
      (sym is) keep) d draws goes

  pub known_by_runs : (to : PlaceSpan) (items : List Item) → RunsInto memory to items → KnownInto w list budget words to items
  known_by_runs to [] h = tt
  known_by_runs to (i ∷ before) h = λ d is front sound.
      let goes : i.at + word_count i.format ≡ front.0 = grind (arith, is, front.1.2) in
      let o = on_machine Board board before i front.0 front.1 sound.kept d is goes in
      let there : IsPointIn to o.t.place =
      h origin 0 o.n o.t (omega arith) o.reached
      (subst (λ q. LeadsTo Frame (frame_word Board words) 0 (i ∷ before) q) (sym o.pc) front.1) o.return_stack in
      let k = known_before (frame_context Board list) before in
      let known : place_before (frame_context rom.machine list) (i ∷ before) ≡ (known_past Board i None k).place =
      ap (λ (a : Machine). place_before (frame_context a list) (i ∷ before)) board
      ∙ ap (λ (o : Option Entry). (known_past Board i o k).place) (ap (λ (j : Instr). callee_at list (target Frame j) k.scale) is) in
      subst (IsNotBeside to) known (fits_in to (place_before (frame_context rom.machine list) (i ∷ before)) origin o.t.place o.place there)

  -- ---- of good frames

  end_of : (to : PlaceSpan) (e : End) (base p : Point) → PlaceFits e base p → IsEndIn to e → IsPointIn to p
  end_of to (Rel x y) base p is h = absurd h
  end_of to (Abs x y) base p is h = subst (IsPointIn to) (sym is) h
  end_of to Lost base p is h = absurd h

  place_there : (machine : Machine) → rom.machine ≡ machine
      → ((earlier : List Item) (p : ℕ) → LeadsTo Frame (frame_word machine words) 0 earlier p → (why : FrameWhy)
      → FramePlaceKeeps w machine words list budget earlier p why)
      → (place : Point) (scale steps : ℕ) (s : State) → Reached memory steps (Running (start place scale)) (Running s)
      → (items : List Item) → LeadsTo Frame (frame_word machine words) 0 items s.pc → s.return_stack ≡ []
      → PlaceFits (place_before (frame_context machine list) items) origin s.place
  place_there machine is keep place scale steps s reached items lead none =
      subst (λ (a : Machine). PlaceFits (place_before (frame_context a list) items) origin s.place) is
      (place_once memory w list budget mem good three
      (subst (λ (a : Machine). (earlier : List Item) (p : ℕ) → LeadsTo Frame (frame_word a words) 0 earlier p → (why : FrameWhy)
      → FramePlaceKeeps w a words list budget earlier p why) (sym is) keep)
      place scale steps s reached items
      (subst (λ (a : Machine). LeadsTo Frame (frame_word a words) 0 items s.pc) (sym is) lead) none)

  -- where a draw is known to lead, there it leads in each run
  pub runs_by_known : ((earlier : List Item) (p : ℕ) → LeadsTo Frame (frame_word Board words) 0 earlier p → (why : FrameWhy)
      → FramePlaceKeeps w Board words list budget earlier p why)
      → ((earlier : List Item) (p : ℕ) → LeadsTo Frame (frame_word Board words) 0 earlier p → IsKnownAlike list earlier)
      → AllMade rom list → (to : PlaceSpan) (items : List Item) → LeadsInto rom to items → RunsInto memory to items
  runs_by_known keep known made to items (k, came, inside) = λ place scale steps s le reached lead none.
      let same = known_once rom items k (known_before (frame_context Board list) items) came (known items s.pc lead rom made) in
      end_of to (place_before (frame_context Board list) items) origin s.place
      (place_there Board board keep place scale steps s reached items lead none) (subst (λ (x : Known). IsEndIn to x.place) same inside)

-- ---- by made entries

end_in : (to : PlaceSpan) (e : End) → IsEndIn to e → IsNotBeside to e
end_in to (Rel x y) h = tt
end_in to (Abs x y) h = h
end_in to Lost h = tt

pub known_by_entries : (rom : Rom) (w : Window) (list : List Entry) (budget : ℕ) (words : List ℕ) → AllMade rom list → (to : PlaceSpan)
    (items : List Item) → LeadsInto rom to items → KnownInto w list budget words to items
known_by_entries rom w list budget words made to [] h = tt
known_by_entries rom w list budget words made to (i ∷ before) (known, (earlier, named, came, names, past), inside) = λ d is front sound.
    let k = known_before (frame_context Board list) before in
    let same : earlier ≡ k = known_once rom before earlier k came (sound.comes rom made) in
    let none : named ≡ None = subst (λ (j : Instr). Names rom (target Frame j) earlier.scale named) is names in
    let eq : known ≡ known_past Board i None k =
    past ∙ ap (λ (x : Known). known_past Board i named x) same ∙ ap (λ (o : Option Entry). known_past Board i o k) none in
    subst (λ (x : Known). IsNotBeside to x.place) eq (end_in to known.place inside)
