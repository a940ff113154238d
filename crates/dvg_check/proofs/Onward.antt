-- From one item to the next, over calls too.
use Rattle.dvg_check.proofs.Common.{◌≢◌, ℤ, Shape, Source, Machine, Option, None, Some, refl, nat_le, arith, inl, sym, ap, inr, zero, suc, List, max, length, nat_lt, ◌≡◌, ◌+◌, ◌≤◌, ◌⊎◌, ◌∷◌, ◌++◌, ◌∙◌, ℕ, [], nat_tests, ints, AllByRecursion, shift, InWindow, displacement, origin, instruction_of, cell_of_format, cell_at, word_count, Stroke, lit_by, State, next_status, Running, places, Memory, InRom, word_at, IsMemory, DrawFields, Window, Point, Holds, Format, Long, Short, Instr, Labs, Halt, Jsrl, Rtsl, Jmpl, End, Lost, Entry, Key, At, LitBox, Empty, Span, PlaceFits, LitFits, ScaleFits, Stretch, address_after, LeadsTo, place_moved_by, Context, place_before, scale_before, target, callee, callee_words, depth_under, place_past, word_of, InBox, LitInWindow, LitInBox, PlaceKnown, ScaleKnown, HasCallee, Mode, Item, shift_origin, Draws, Any, box_at, Behaves, draw_effect, IsDrawOrLabs, lit_on, box_extent, draw_extent, extent, Between, listed_at}
use Rattle.dvg_check.proofs.Runs.{counts_same, stretch_less, stretch_on, deeper}
use Rattle.dvg_check.proofs.Steps.{fits_moved, next_there, one_item, stands}

-- ---- a long instruction is a draw or a LABS

pub long_there : (get : Source) (p : ℕ) (i : Instr) → cell_at get p ≡ Holds Long i → IsDrawOrLabs i
unfolding cell_at instruction_of
long_there get p i e = grind (arith, nat_le, nat_tests, cell_of_format)

-- ---- boxes

in_box_at : (box : LitBox) (base d p a : Point) → p ≡ shift base d → InBox box (shift d a) → InBox (box_at box base) (shift p a)
in_box_at Empty base d p a is h = h
in_box_at (Span x0 x1 y0 y1) base d p a is h = omega (arith, ints, h, ap (λ r. r.x) is, ap (λ r. r.y) is)

lit_points : (w : Window) (box : LitBox) (base p a b : Point) (k : End) → PlaceFits k base p → k ≢ Lost → LitInWindow w (Between a b) k
    → LitInBox box (Between a b) k → (InWindow w (shift p a) × InWindow w (shift p b))
    ⊎ (InBox (box_at box base) (shift p a) × InBox (box_at box base) (shift p b))
lit_points w box base p a b k h n shown boxed = grind (arith, (λ (x y : ℤ) (c : Point). in_box_at box base (record { x = x; y = y }) p c))

-- a point in a box is where both corners are
window_of_corners : (w : Window) (p v : Point) (x0 x1 y0 y1 : ℤ)
    → (InWindow w (shift p (record { x = x0; y = y0 })) × InWindow w (shift p (record { x = x1; y = y1 })))
    → InBox (box_at (Span x0 x1 y0 y1) p) v → InWindow w v
window_of_corners w p v x0 x1 y0 y1 c h = omega (arith, ints, c, h)

box_of_corners : (box : LitBox) (p v : Point) (x0 x1 y0 y1 : ℤ)
    → (InBox box (shift p (record { x = x0; y = y0 })) × InBox box (shift p (record { x = x1; y = y1 })))
    → InBox (box_at (Span x0 x1 y0 y1) p) v → InBox box v
box_of_corners box p v x0 x1 y0 y1 c h = grind (arith, ints)

-- what a called shape may light, the caller may
allowed_up : (w : Window) (inner box : LitBox) (base p : Point) (k : End) → PlaceFits k base p → PlaceKnown (box_extent inner) k
    → LitInWindow w (box_extent inner) k → LitInBox box (box_extent inner) k → (stroke : Stroke) → LitFits w inner p stroke
    → LitFits w box base stroke
allowed_up w inner box base p k h known shown boxed stroke on = grind (arith, window_of_corners, box_of_corners, (lit_points w box base p))

-- what a draw lights
fits_apart : (base p q d : Point) (k : End) → k ≢ Lost → PlaceFits k base p → PlaceFits (place_moved_by k d) base q → q ≡ shift p d
fits_apart base p q d k n h g = grind (arith, (fits_moved base p d k h))

lit_draw : (a : Machine) (w : Window) (box : LitBox) (base p q : Point) (bright : ℕ) (d : DrawFields) (k : End) (sc : Key)
    → PlaceFits k base p → PlaceFits (place_past (draw_effect a d sc) k) base q
    → PlaceKnown (draw_extent a bright d sc) k → ScaleKnown (draw_extent a bright d sc) → LitInWindow w (draw_extent a bright d sc) k
    → LitInBox box (draw_extent a bright d sc) k → AllByRecursion (LitFits w box base) (lit_by bright (record { from = p; to = q }))
lit_draw a w box base p q zero d k sc h g known scale shown boxed = tt
lit_draw a w box base p q (suc bright) d k Any h g known scale shown boxed = absurd scale
lit_draw a w box base p q (suc bright) d k (At x) h g known scale shown boxed =
    let both = lit_points w box base p origin (displacement a d x) k h known shown boxed in
    (rw (fits_apart base p q (displacement a d x) k known h g) (rw (shift_origin p) at both), tt)

found : (o : Option ℕ) (to : ℕ) (named : Option Entry) → o ≡ Some to → HasCallee o named → (f : Entry) × (named ≡ Some f)
found o to named is h = grind (arith)

-- ---- one step as a stretch of a run

one_step : (mode : Mode) (m : Memory) (F : ℕ → Type 0) (P : Stroke → Type 0) (most deep : ℕ) (format : Format) (p : ℕ) (s t : State)
    (new : List Stroke) → next_status m s ≡ Running t
    → t.fetched ≡ places format p ++ s.fetched → AllByRecursion F (places format p) → t.strokes ≡ new ++ s.strokes → AllByRecursion P new
    → most ≡ word_count format → t.max_stack ≡ max s.max_stack deep → Stretch mode m F P most deep s t
one_step mode m F P most deep format p s t new step fetched mapped drew lit count stored = grind (arith, places, counts_same, max)

-- ---- where a walk stands

-- a state at a place, which agrees with what is known before it
pub record Stands (c : Context) (base : Point) (rs : List ℕ) (earlier : List Item) (p : ℕ) (s : State) : Type 0 where
  pub pc : s.pc ≡ p
  pub return_stack : s.return_stack ≡ rs
  pub room : length rs ≤ s.max_stack
  pub place : PlaceFits (place_before c earlier) base s.place
  pub scale : ScaleFits (scale_before c earlier) s.scale

-- what the rules say of an item that is there
pub record Fits (w : Window) (c : Context) (box : LitBox) (earlier : List Item) (instr : Instr) : Type 0 where
  pub known : PlaceKnown (extent c earlier instr) (place_before c earlier)
  pub scale_known : ScaleKnown (extent c earlier instr)
  pub shown : LitInWindow w (extent c earlier instr) (place_before c earlier)
  pub boxed : LitInBox box (extent c earlier instr) (place_before c earlier)
  pub named : HasCallee (target c.kind instr) (callee c earlier instr)

module _ (mode : Mode) (m : Memory) (w : Window) (box : LitBox) (base : Point) (Ok : ℕ → Type 0)
    (rom_ok : (p : ℕ) → InRom m.rom.map p → Ok p) (mem : IsMemory m) (c : Context) (same : c.machine ≡ m.rom.machine) where
  -- the result for an item: it stands at this place with this stack
  abbrev pub Onward : List Item → Item → List ℕ → ℕ → List ℕ → State → Type 0
  Onward earlier i rs p rest s =
      (t : State) × Stretch mode m Ok (LitFits w box base) (word_count i.format + callee_words (callee c earlier i.instr))
      (length rs + depth_under i.instr (callee c earlier i.instr)) s t × Stands c base rest (i ∷ earlier) p t

  -- an item that enters no shape
  plain_onward : (earlier : List Item) (i : Item) (p : ℕ) (rs rest : List ℕ) (s t : State) (new : List Stroke)
      → callee c earlier i.instr ≡ None → AllByRecursion Ok (places i.format i.at) → next_status m s ≡ Running t
      → t.fetched ≡ places i.format i.at ++ s.fetched → t.strokes ≡ new ++ s.strokes → AllByRecursion (LitFits w box base) new
      → t.max_stack ≡ s.max_stack → length rs ≤ s.max_stack → Stands c base rest (i ∷ earlier) p t → Onward earlier i rs p rest s
  plain_onward earlier i p rs rest s t new none own step fetched drew lit stored room st = (
    t,
    one_step mode m Ok (LitFits w box base) _ _ i.format i.at s t new step fetched own drew lit
        (omega (arith, ap callee_words none)) (omega (arith, stored, room, ap (depth_under i.instr) none)),
    st,
  )

  -- an item that enters a shape, from which it returns to this place
  entry_onward : (earlier : List Item) (i : Item) (to p : ℕ) (rs rest : List ℕ) (s : State) → target c.kind i.instr ≡ Some to
      → Fits w c box earlier i.instr → AllByRecursion Ok (places i.format i.at) → Stands c base rs earlier i.at s
      → next_status m s ≡ Running (record s {
        pc = to;
        return_stack = p ∷ rest;
        max_stack = max s.max_stack (length (p ∷ rest));
        fetched =
            places i.format i.at ++ s.fetched;
      }) → ((f : Entry) → length rs + depth_under i.instr (Some f) ≡ length (p ∷ rest) + f.depth)
      → length rs + depth_under i.instr (callee c earlier i.instr) ≤ 4
      → ((f : Entry) → callee c earlier i.instr ≡ Some f → Behaves mode m w f) → Onward earlier i rs p rest s
  entry_onward earlier i to p rs rest s goes fits own st step deep le calls =
      let (f, is) = found (target c.kind i.instr) to (callee c earlier i.instr) goes fits.named in
      let named : (f.addr ≡ to) × ((g : ℕ) → ScaleFits (scale_before c earlier) g → ScaleFits f.key g) = grind (arith, listed_at) in
      let under : length rs + depth_under i.instr (callee c earlier i.instr) ≡ length (p ∷ rest) + f.depth =
      ap (λ o. length rs + depth_under i.instr o) is ∙ deep f in
      let e : State =
      record s {
        pc = to;
        return_stack = p ∷ rest;
        max_stack = max s.max_stack (length (p ∷ rest));
        fetched =
            places i.format i.at ++ s.fetched;
      } in
      let one = one_step mode m Ok (LitFits w box base) (word_count i.format) (length (p ∷ rest)) i.format i.at s e [] step refl own refl
      tt refl refl in
      let r = calls f is e p rest (omega arith) (sym named.0) (named.1 s.scale st.scale) refl (omega (arith, under, le)) in
      let two : Stretch mode m Ok (LitFits w box base) f.words (length (p ∷ rest) + f.depth) e r.0 =
      grind (arith, stretch_less, allowed_up) in (
        r.0,
        stretch_on mode m Ok (LitFits w box base) (word_count i.format) f.words _ (length (p ∷ rest)) (length (p ∷ rest) + f.depth) _ s e
            r.0 (counts_same mode _ _ (omega (arith, ap callee_words is))) (counts_same mode _ _ (omega (arith, under))) one two,
        record {
          pc = r.1.pc;
          return_stack = r.1.return_stack;
          room = omega (arith, deeper mode m Ok (LitFits w box base) _ _ e r.0 two);
          place = grind (arith, place_before, place_past, place_moved_by, fits_moved);
          scale = grind (arith);
        },
      )

  -- a draw or a LABS
  drawn_onward : (first : ℕ) (earlier : List Item) (i : Item) (p : ℕ) (rs rest : List ℕ) (s : State) → IsDrawOrLabs i.instr
      → AllByRecursion Ok (places i.format i.at) → LeadsTo c.kind (word_of c.kind m) first earlier i.at
      → cell_at (word_of c.kind m) i.at ≡ Holds i.format i.instr → i.at + word_count i.format ≡ p → rs ≡ rest
      → ((q : Point) → PlaceFits (place_before c (i ∷ earlier)) base q → AllByRecursion (LitFits w box base) (lit_on i.instr s.place q))
      → Stands c base rs earlier i.at s → Onward earlier i rs p rest s
  drawn_onward first earlier i p rs rest s kind own lead e goes same_stack lit st =
      let (t, q) = one_item m c first earlier i base s mem same lead e kind st.pc st.place st.scale in
      plain_onward earlier i p rs rest s t (lit_on i.instr s.place t.place) (grind (arith)) own q.step q.fetched q.strokes
      (lit t.place q.place) q.max_stack st.room
      (record {
        pc = q.pc ∙ goes;
        return_stack = q.return_stack ∙ st.return_stack ∙ same_stack;
        room =
            omega (arith, q.max_stack, st.room, ap length same_stack);
        place = q.place;
        scale = q.scale_is;
      })

  -- an item, at which a run goes on, or which is a shape's last and from which it returns
  pub over_item : (first : ℕ) (earlier : List Item) (at : ℕ) (format : Format) (instr : Instr) (p : ℕ) (rs rest : List ℕ) (s : State)
      → ((address_after c.kind at format instr ≡ Some p) × (rs ≡ rest))
      ⊎ ((c.kind ≡ Shape) × (address_after c.kind at format instr ≡ None) × (instr ≢ Halt) × (rs ≡ p ∷ rest))
      → AllByRecursion Ok (places format at) → LeadsTo c.kind (word_of c.kind m) first earlier at
      → cell_at (word_of c.kind m) at ≡ Holds format instr
      → Fits w c box earlier instr → length rs + depth_under instr (callee c earlier instr) ≤ 4
      → ((f : Entry) → callee c earlier instr ≡ Some f → Behaves mode m w f) → Stands c base rs earlier at s
      → Onward earlier (record { at = at; format = format; instr = instr }) rs p rest s
  over_item first earlier at format (Draws d) p rs rest s (inl goes) own lead e fits le calls st =
      drawn_onward first earlier (record { at = at; format = format; instr = Draws d }) p rs rest s tt own lead e (cc) goes.1
      (λ q g. lit_draw c.machine w box base s.place q d.bright d (place_before c earlier) (scale_before c earlier) st.place g
      fits.known fits.scale_known fits.shown fits.boxed) st
  over_item first earlier at format (Labs x y g) p rs rest s (inl goes) own lead e fits le calls st =
      drawn_onward first earlier (record { at = at; format = format; instr = Labs x y g }) p rs rest s tt own lead e (cc) goes.1
      (λ q g. tt) st
  over_item first earlier at Long (Jsrl to) p rs rest s goes own lead e fits le calls st =
      absurd (long_there (word_of c.kind m) at (Jsrl to) e)
  over_item first earlier at Short (Jsrl to) p rs rest s (inl goes) own lead e fits le calls st =
      let there = next_there m s Short (Jsrl to) (ap (cell_at (word_at m)) st.pc ∙ stands c.kind m at Short (Jsrl to) mem e) in
      entry_onward earlier (record { at = at; format = Short; instr = Jsrl to }) to p rs rest s refl fits own st
      (grind (arith, nat_tests, nat_lt, there)) (λ f. omega (arith, ap length goes.1)) le calls
  over_item first earlier at format (Jmpl to) p rs rest s (inl goes) own lead e fits le calls st =
      let there = next_there m s format (Jmpl to) (ap (cell_at (word_at m)) st.pc ∙ stands c.kind m at format (Jmpl to) mem e) in
      let t : State = record s { pc = to; fetched = places format at ++ s.fetched } in
      let none : callee c earlier (Jmpl to) ≡ None = grind (arith) in
      let known = rw (shift_origin s.place) at (fits_moved base s.place origin (place_before c earlier) st.place) in
      plain_onward earlier (record { at = at; format = format; instr = Jmpl to }) p rs rest s t [] none own (grind (arith, there)) refl
      refl tt refl st.room (record {
        pc = grind (arith, nat_lt);
        return_stack = st.return_stack ∙ goes.1;
        room =
            omega (arith, st.room, ap length goes.1);
        place = grind (arith, none);
        scale = grind (arith, none);
      })
  over_item first earlier at format (Jmpl to) p rs rest s (inr goes) own lead e fits le calls st =
      let there = next_there m s format (Jmpl to) (ap (cell_at (word_at m)) st.pc ∙ stands c.kind m at format (Jmpl to) mem e) in
      entry_onward earlier (record { at = at; format = format; instr = Jmpl to }) to p rs rest s (ap (λ k. target k (Jmpl to)) goes.0)
      fits own st (grind (arith, there)) (λ f. omega (arith, ap length goes.3)) le calls
  over_item first earlier at format Rtsl p rs rest s (inr goes) own lead e fits le calls st =
      let there = next_there m s format Rtsl (ap (cell_at (word_at m)) st.pc ∙ stands c.kind m at format Rtsl mem e) in
      let t : State = record s { pc = p; return_stack = rest; fetched = places format at ++ s.fetched } in
      let known = rw (shift_origin s.place) at (fits_moved base s.place origin (place_before c earlier) st.place) in
      plain_onward earlier (record { at = at; format = format; instr = Rtsl }) p rs rest s t [] refl own (grind (arith, there)) refl refl
      tt refl st.room (record {
        pc = refl;
        return_stack = refl;
        room = omega (arith, st.room, ap length goes.3);
        place = known;
        scale = st.scale;
      })
  over_item first earlier at format instr p rs rest s (inl goes) own lead e fits le calls st = absurd (grind (arith))
  over_item first earlier at format instr p rs rest s (inr goes) own lead e fits le calls st = absurd (grind (arith))
