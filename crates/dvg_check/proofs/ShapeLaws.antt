-- A shape's items one after another, and all shapes by induction on their words.
use Rattle.dvg_check.proofs.Common.{inl, inr, state_of, AsClaimed, List, Some, length, arith, sym, Option, None, zero, ap, suc, max, subst, refl, ◌≡◌, ◌+◌, ◌<◌, ◌≤◌, ◌∷◌, ◌∙◌, ℕ, [], AllByRecursion, Contains, shift, origin, cell_at, word_count, places, State, Reached, Running, Memory, IsMemory, InRom, rom_word, Window, Point, Cell, Holds, Format, Instr, Entry, LitBox, Stretch, LitFits, Counts, PlaceFits, ScaleFits, LeadsTo, next_address, Context, callee, depth_before, words_before, shape_context, target, scale_before, callee_words, depth_under, word_of, GoodShape, CellKeeps, ShapeKeeps, AtLast, Good, seen_at, Mode, ShapeWhy, Item, Shape, shift_origin, Behaves, OneShape, AllShapes, named_listed, word_count-some}
use Rattle.dvg_check.specs.declared.fault.ShapeWhy.TheVariants as shape
use Rattle.dvg_check.proofs.Onward.{Fits, Stands, over_item}
use Rattle.dvg_check.proofs.Runs.{stretch_here, stretch_on, counts_same}
use Rattle.dvg_check.proofs.Steps.{own}

-- ---- any kind: along the items that lead to a place

pub record Facts (mode : Mode) (m : Memory) (w : Window) (c : Context) (box : LitBox) (Ok : ℕ → Type 0) (earlier : List Item)
    (i : Item) : Type 0 where
  pub moves : c.machine ≡ m.rom.machine
  pub own : AllByRecursion Ok (places i.format i.at)
  pub fits : Fits w c box earlier i.instr
  pub calls : (f : Entry) → callee c earlier i.instr ≡ Some f → Behaves mode m w f

pub arrive : (mode : Mode) (m : Memory) (w : Window) (c : Context) (box : LitBox) (base : Point) (Ok : ℕ → Type 0) (first : ℕ)
    (rs : List ℕ) (s : State) → IsMemory m → ((p : ℕ) → InRom m.rom.map p → Ok p)
    → ((earlier : List Item) (i : Item) → LeadsTo c.kind (word_of c.kind m) first earlier i.at
    → cell_at (word_of c.kind m) i.at ≡ Holds i.format i.instr → Facts mode m w c box Ok earlier i) → Stands c base rs [] first s
    → (items : List Item) (p : ℕ) → LeadsTo c.kind (word_of c.kind m) first items p → length rs + depth_before c items ≤ 4
    → (t : State) × Stretch mode m Ok (LitFits w box base) (words_before c items) (length rs + depth_before c items) s t
    × Stands c base rs items p t
arrive mode m w c box base Ok first rs s mem rom facts st [] p lead le = grind (arith, stretch_here)
arrive mode m w c box base Ok first rs s mem rom facts st (i ∷ earlier) p lead le =
    let a = arrive mode m w c box base Ok first rs s mem rom facts st earlier i.at lead.0 (omega arith) in
    let f = facts earlier i lead.0 lead.1 in
    let b = over_item mode m w box base Ok rom mem c f.moves first earlier i.at i.format i.instr p rs rs a.0 (inl (lead.2, refl)) f.own
    lead.0 lead.1 f.fits (omega arith) f.calls a.2 in (
      b.0,
      stretch_on mode m Ok (LitFits w box base) (words_before c earlier) _ _ (length rs + depth_before c earlier) _ _ s a.0 b.0
          (counts_same mode _ _ (omega (arith))) (counts_same mode _ _ (omega (arith))) a.1 b.1,
      b.2,
    )

-- a run that removes a return place takes at least one step
some_step : (m : Memory) (n : ℕ) (s t : State) (back : ℕ) (rest : List ℕ) → Reached m n (Running s) (Running t)
    → s.return_stack ≡ back ∷ rest → t.return_stack ≡ rest → 1 ≤ n
some_step m zero s t back rest r rs e = absurd (omega (arith, ap length rs, ap (λ x. length (state_of x).return_stack) r, ap length e))
some_step m (suc n) s t back rest r rs e = omega arith

-- a count at the last item, above what was there before
claims : (mode : Mode) (more n claimed x y : ℕ) (o : Option ℕ) → o ≡ None → n ≤ claimed → AtLast o (AsClaimed mode n claimed)
    → x ≡ more + n → y ≡ more + claimed → Counts mode x y
claims mode more n claimed x y o is le h at_most up = grind (arith)

-- what is neither missing nor odd is an item
holds : (K : Item → ShapeWhy → Type 0) (p : ℕ) (cell : Cell) → CellKeeps shape.Unmapped shape.Odd K p cell shape.Unmapped
    → CellKeeps shape.Unmapped shape.Odd K p cell shape.Odd → (format : Format) × (instr : Instr) × (cell ≡ Holds format instr)
holds K p (Holds format instr) a b = (format, instr, refl)
holds K p cell a b = grind (arith)

-- ---- what the rules say in a shape

module _ (mode : Mode) (m : Memory) (w : Window) (list : List Entry) (e : Entry) (mem : IsMemory m)
    (keep : GoodShape mode w m.rom list e) where
  abbrev context : Context
  context = shape_context m.rom.machine list e

  rule : (earlier : List Item) (i : Item) → LeadsTo Shape (rom_word m.rom) e.addr earlier i.at
      → cell_at (rom_word m.rom) i.at ≡ Holds i.format i.instr → (why : ShapeWhy) → ShapeKeeps mode w e (seen_at context earlier i) why
  rule earlier i lead is why =
      subst (λ c. CellKeeps shape.Unmapped shape.Odd (λ j. ShapeKeeps mode w e (seen_at context earlier j)) i.at c why) is
      (keep earlier i.at lead why)

  item_facts : ((f : Entry) → Contains list f → f.words < e.words → Behaves mode m w f) → (earlier : List Item) (i : Item)
      → LeadsTo Shape (rom_word m.rom) e.addr earlier i.at → cell_at (rom_word m.rom) i.at ≡ Holds i.format i.instr
      → Facts mode m w context e.lit (InRom m.rom.map) earlier i
  item_facts smaller earlier i lead is =
      record {
        moves = refl;
        own = own Shape m i.at i.format i.instr mem is;
        fits = grind (
          arith,
          (rule earlier i lead is shape.BeamUnknown),
          (rule earlier i lead is shape.ScaleUnknown),
          (rule earlier i lead is shape.OffScreen),
          (rule earlier i lead is shape.BoxTooSmall),
          (rule earlier i lead is shape.NoEntry),
        );
        calls = λ f n. smaller f (named_listed list (target Shape i.instr) (scale_before context earlier) f n)
            (omega (arith, rule earlier i lead is shape.TooManyWords, ap callee_words n, word_count-some i.format));
      }

  depth_fits : (items : List Item) (p : ℕ) → LeadsTo Shape (rom_word m.rom) e.addr items p → depth_before context items ≤ e.depth
  depth_fits [] p lead = omega arith
  depth_fits (i ∷ earlier) p lead = omega (arith, rule earlier i lead.0 lead.1 shape.TooDeep, depth_fits earlier i.at lead.0)

  -- the last item
  find_last : (n : ℕ) (items : List Item) (p : ℕ) → LeadsTo Shape (rom_word m.rom) e.addr items p → words_before context items ≤ e.words
      → e.words < words_before context items + n
      → (items : List Item) × (i : Item) × LeadsTo Shape (rom_word m.rom) e.addr items i.at
      × (cell_at (rom_word m.rom) i.at ≡ Holds i.format i.instr) × (next_address Shape i ≡ None)
  find_last zero items p lead few le = absurd (omega arith)
  find_last (suc n) items p lead few le =
      let h = holds (λ j. ShapeKeeps mode w e (seen_at context items j)) p (cell_at (rom_word m.rom) p)
      (keep items p lead shape.Unmapped) (keep items p lead shape.Odd) in
      let i : Item = record { at = p; format = h.0; instr = h.1 } in
      (elim (next_address Shape i) as
      (λ o. next_address Shape i ≡ o → (items : List Item) × (i : Item) × LeadsTo Shape (rom_word m.rom) e.addr items i.at
      × (cell_at (rom_word m.rom) i.at ≡ Holds i.format i.instr) × (next_address Shape i ≡ None)) [
        | None ↦ λ is. (items, i, lead, h.2, is)
        | Some q ↦ λ is. find_last n (i ∷ items) q (lead, h.2, is) (rule items i lead h.2 shape.TooManyWords)
            (omega (arith, word_count-some h.0))
      ])
      refl

pub one_shape : (mode : Mode) → OneShape mode
one_shape mode m w list e mem good listed smaller s back rest room pc scale rs four =
    let keep = good e listed in
    let c = shape_context m.rom.machine list e in
    let (items, i, lead, is, last) = find_last mode m w list e mem keep (suc e.words) [] e.addr refl (omega arith) (omega arith) in
    let keeps = rule mode m w list e mem keep items i lead is in
    let facts = item_facts mode m w list e mem keep smaller in
    let f = facts items i lead is in
    let same : length s.return_stack ≡ length (back ∷ rest) = ap length rs in
    let deep = depth_fits mode m w list e mem keep items i.at lead in
    let named = callee c items i.instr in
    let under : depth_under i.instr named ≤ e.depth = keeps shape.TooDeep in
    let st : Stands c s.place (back ∷ rest) [] e.addr s =
    record {
      pc = pc;
      return_stack = rs;
      room = omega (arith, room, same);
      place =
          sym (shift_origin s.place) ∙ ap (shift s.place) (sym (shift_origin origin));
      scale = scale;
    } in
    let a = arrive mode m w c e.lit s.place (InRom m.rom.map) e.addr (back ∷ rest) s mem (λ p h. h) facts st items i.at lead
    (omega (arith, same, deep)) in
    let b = over_item mode m w e.lit s.place (InRom m.rom.map) (λ p h. h) mem c refl e.addr items i.at i.format i.instr back
    (back ∷ rest) rest a.0 (inr (refl, last, keeps shape.HaltInShape, refl)) f.own lead is f.fits (omega (arith, same, under))
    f.calls a.2 in
    let words = claims mode 0 (words_before c (i ∷ items)) e.words (words_before c items + (word_count i.format + callee_words named))
    e.words (next_address Shape i) last (keeps shape.TooManyWords) (keeps shape.WordsDiffer) (omega arith) (omega arith) in
    let most = max (length (back ∷ rest) + depth_before c items) (length (back ∷ rest) + depth_under i.instr named) in
    let depth = claims mode (length s.return_stack) (depth_before c (i ∷ items)) e.depth most (length s.return_stack + e.depth)
    (next_address Shape i) last (omega (arith, under, deep)) (keeps shape.DepthDiffers) (omega (arith, same)) refl in
    let whole = stretch_on mode m (InRom m.rom.map) (LitFits w e.lit s.place) _ _ e.words _ _ (length s.return_stack + e.depth) s a.0 b.0
    words depth a.1 b.1 in (
      b.0,
      search (
        some_step m whole.steps s b.0 back rest whole.reached rs b.2.return_stack,
        subst (λ k. PlaceFits k s.place b.0.place) (rw last at (keeps shape.EndDiffers)) b.2.place,
        subst (λ k. ScaleFits k b.0.scale) (rw last at (keeps shape.ScaleDiffers)) b.2.scale,
      ),
    )

shapes_up_to : (mode : Mode) (m : Memory) (w : Window) (list : List Entry) → IsMemory m → Good mode w m.rom list → (n : ℕ) (e : Entry)
    → Contains list e → e.words ≤ n → Behaves mode m w e
shapes_up_to mode m w list mem good zero e listed le = one_shape mode m w list e mem good listed (λ f l lt. absurd (omega arith))
shapes_up_to mode m w list mem good (suc n) e listed le =
    one_shape mode m w list e mem good listed (λ f l lt. shapes_up_to mode m w list mem good n f l (omega arith))

pub all_shapes : (mode : Mode) → AllShapes mode
all_shapes mode m w list mem good e listed = shapes_up_to mode m w list mem good e.words e listed (omega arith)
