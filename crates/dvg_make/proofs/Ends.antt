-- What a made entry says of its shape: at each item, and at the end.
use Rattle.dvg_make.proofs.Common.{Machine, ◌≡◌, ◌≢◌, ℕ, zero, suc, ◌+◌, ◌<◌, ◌≤◌, List, [], ◌∷◌, Option, Some, None, refl, sym, ap, subst, arith, ⊎_elim, cell_at, Rom, rom_word, screen, Window, Cell, Missing, Odd, Holds, Format, Instr, entry_at, Entry, Key, next_address, LeadsTo, Context, shape_context, target, callee_at, callee, callee_words, scale_before, place_before, words_before, depth_before, depth_under, known_before, extent, seen_at, HasCallee, InBox, relative_corners, ShapeKeeps, CellKeeps, Exact, Mode, ShapeWhy, Item, Shape, Known, Seen, word_count-some, lit_points, HoldsAll, IsLeast, HasEntry, EachItem, AtEachOf, AtEveryPlace, everywhere, AllKeep, ShapePlaceKeeps, MadeEntry, keyed_context, IsStraight, AllFine, rules, all_left, all_right, AtLast, MadeKeeps, IsFine, Point, LitBox, IsInside, Contains, Good, GoodShape, AllInWindow, ItemInWindow}
use Rattle.dvg_check.specs.declared.fault.ShapeWhy.TheVariants as shape
pub use Rattle.dvg_make.specs.Private.Covering.{known_of}
use Rattle.dvg_make.proofs.Matching.{gathered, Matched, gathered_same, exact_named, none_or_some}

-- ---- at an item

-- something stands wherever items lead
abbrev pub Stands : Rom → ℕ → Type 0
Stands rom addr =
    (items : List Item) (p : ℕ) → LeadsTo Shape (rom_word rom) addr items p → (format : Format) × (instr : Instr)
    × (cell_at (rom_word rom) p ≡ Holds format instr)

-- by the rules of shapes, but for what is lit at absolute places
module _ (mode : Mode) (rom : Rom) (list : List Entry) (e : Entry)
    (keeps : AllKeep Shape (rom_word rom) e.addr
    (λ earlier p why. (w : Window) → why ≢ shape.OffScreen → ShapePlaceKeeps mode w rom list e earlier p why)) where
  pub rule_at : (earlier : List Item) (i : Item) → LeadsTo Shape (rom_word rom) e.addr earlier i.at
      → cell_at (rom_word rom) i.at ≡ Holds i.format i.instr → (w : Window) (why : ShapeWhy) → why ≢ shape.OffScreen
      → ShapeKeeps mode w e (seen_at (shape_context rom.machine list e) earlier i) why
  rule_at earlier i lead is w why not =
      subst (λ cell. CellKeeps shape.Unmapped shape.Odd (λ j. ShapeKeeps mode w e (seen_at (shape_context rom.machine list e) earlier j))
      i.at cell why) is (keeps earlier i.at lead why w not)

  pub stands_at : Stands rom e.addr
  stands_at items p lead = by_cell (cell_at (rom_word rom) p) (λ why. keeps items p lead why screen)
    where
      by_cell : (cell : Cell) → ((why : ShapeWhy) → why ≢ shape.OffScreen
          → CellKeeps shape.Unmapped shape.Odd (λ j. ShapeKeeps mode screen e (seen_at (shape_context rom.machine list e) items j)) p
          cell why) → (format : Format) × (instr : Instr) × (cell ≡ Holds format instr)
      by_cell Missing k = absurd (k shape.Unmapped (λ x. cc x) refl)
      by_cell Odd k = absurd (k shape.Odd (λ x. cc x) refl)
      by_cell (Holds format instr) k = (format, instr, refl)

-- what a made entry says of an item that is seen
pub record Allows (e : Entry) (v : Seen) : Type 0 where
  pub straight : IsStraight v
  pub deep : depth_under v.item.instr v.callee ≤ e.depth
  pub many : v.after.words ≤ e.words

pub allows_at : (rom : Rom) (list : List Entry) (e : Entry) → MadeEntry rom list e → (earlier : List Item) (i : Item)
    → LeadsTo Shape (rom_word rom) e.addr earlier i.at → cell_at (rom_word rom) i.at ≡ Holds i.format i.instr
    → Allows e (seen_at (shape_context rom.machine list e) earlier i)
allows_at rom list e made earlier i lead is =
    let k = rule_at Exact rom list e made.keeps earlier i lead is screen in
    search (
      k shape.HaltInShape (λ q. cc q),
      k shape.BeamUnknown (λ q. cc q),
      k shape.ScaleUnknown (λ q. cc q),
      k shape.TooDeep (λ q. cc q),
      k shape.TooManyWords (λ q. cc q),
    )

-- a called entry has fewer words
pub callee_less : (rom : Rom) (list : List Entry) (e : Entry) → MadeEntry rom list e → (earlier : List Item) (i : Item)
    → LeadsTo Shape (rom_word rom) e.addr earlier i.at → cell_at (rom_word rom) i.at ≡ Holds i.format i.instr → (to : ℕ) (g : Entry)
    → target Shape i.instr ≡ Some to → entry_at list to (scale_before (shape_context rom.machine list e) earlier) ≡ Some g
    → g.words < e.words
callee_less rom list e made earlier i lead is to g t h =
    let allows = allows_at rom list e made earlier i lead is in
    grind (
      arith,
      allows,
      (scale_before (shape_context rom.machine list e) earlier),
      (shape_context rom.machine list e),
      (callee (shape_context rom.machine list e) earlier i.instr),
      callee_at,
      exact_named,
      (callee_words (callee (shape_context rom.machine list e) earlier i.instr)),
      callee_words,
      (word_count-some i.format),
    )

-- ---- at the end

-- what a made entry says at the end of its items
pub record Sums (machine : Machine) (list : List Entry) (items : List Item) (e : Entry) : Type 0 where
  pub known : known_before (shape_context machine list e) items ≡ known_of e
  pub box : IsLeast (lit_points (shape_context machine list e) items) e.lit

pub sums_of : (rom : Rom) (list : List Entry) (e : Entry) → MadeEntry rom list e → (earlier : List Item) (i : Item)
    → LeadsTo Shape (rom_word rom) e.addr earlier i.at → cell_at (rom_word rom) i.at ≡ Holds i.format i.instr
    → next_address Shape i ≡ None → Sums rom.machine list (i ∷ earlier) e
sums_of rom list e made earlier i lead is last =
    let k = rule_at Exact rom list e made.keeps earlier i lead is screen in
    let known : known_before (shape_context rom.machine list e) (i ∷ earlier) ≡ known_of e =
    grind (
      arith,
      last,
      (k shape.EndDiffers (λ q. cc q)),
      (k shape.ScaleDiffers (λ q. cc q)),
      (k shape.WordsDiffer (λ q. cc q)),
      (k shape.DepthDiffers (λ q. cc q)),
    ) in
    record { known = known; box = made.box earlier i lead is last }

both_inside : (a b : LitBox) → IsInside a b → IsInside b a → a ≡ b
both_inside a b h k = grind (arith)

-- points have one least box
pub one_least : (ps : List Point) (a b : LitBox) → IsLeast ps a → IsLeast ps b → a ≡ b
one_least ps a b h k = both_inside a b (h.least b k.holds) (k.least a h.holds)

-- entries with the same address, key and sums are the same
pub same_sums : (machine : Machine) (a b : List Entry) (items : List Item) (e f : Entry) → e.addr ≡ f.addr → e.key ≡ f.key
    → Matched machine a b e.key items → Sums machine a items e → Sums machine b items f → e ≡ f
same_sums machine a b items e f addr key m s t = grind (arith, gathered, keyed_context, gathered_same, one_least, lit_points, shape_context)

-- ---- the items end

pub record Stops (rom : Rom) (addr : ℕ) : Type 0 where
  pub items : List Item
  pub i : Item
  pub leads : LeadsTo Shape (rom_word rom) addr items i.at
  pub is : cell_at (rom_word rom) i.at ≡ Holds i.format i.instr
  pub last : next_address Shape i ≡ None

-- where no item's words go over a bound, the items end
module _ (rom : Rom) (c : Context) (addr most : ℕ) (stands : Stands rom addr)
    (few : (earlier : List Item) (i : Item) → LeadsTo Shape (rom_word rom) addr earlier i.at
    → cell_at (rom_word rom) i.at ≡ Holds i.format i.instr → words_before c (i ∷ earlier) ≤ most) where
  find_last : (n : ℕ) (items : List Item) (p : ℕ) → LeadsTo Shape (rom_word rom) addr items p → most ≤ words_before c items + n
      → Stops rom addr
  find_last zero items p lead le =
      let h = stands items p lead in
      absurd (omega (arith, few items (record { at = p; format = h.0; instr = h.1 }) lead h.2, le, word_count-some h.0))
  find_last (suc n) items p lead le =
      let h = stands items p lead in
      let i : Item = record { at = p; format = h.0; instr = h.1 } in
      ⊎_elim (λ is. record { items = items; i = i; leads = lead; is = h.2; last = is })
      (λ q. find_last n (i ∷ items) q.0 (lead, h.2, q.1) (omega (arith, le, word_count-some h.0))) (none_or_some (next_address Shape i))

  pub stops : Stops rom addr
  stops = find_last most [] addr refl (omega arith)

-- ---- a shape that ends as its entry says

pub record Ends (rom : Rom) (list : List Entry) (e : Entry) : Type 0 where
  pub stops : Stops rom e.addr
  pub sums : Sums rom.machine list (stops.i ∷ stops.items) e
  pub fine : AllFine (shape_context rom.machine list e) (stops.i ∷ stops.items)

all_fine : (rom : Rom) (list : List Entry) (e : Entry) → MadeEntry rom list e → (items : List Item) (i : Item)
    → LeadsTo Shape (rom_word rom) e.addr items i.at → cell_at (rom_word rom) i.at ≡ Holds i.format i.instr
    → AllFine (shape_context rom.machine list e) (i ∷ items)
all_fine rom list e made [] i lead is =
    (tt, record { straight = (allows_at rom list e made [] i lead is).straight; keyed = made.keyed [] i lead is })
all_fine rom list e made (j ∷ items) i lead is = (
  all_fine rom list e made items j lead.0 lead.1,
  record { straight = (allows_at rom list e made (j ∷ items) i lead is).straight; keyed = made.keyed (j ∷ items) i lead is },
)

pub made_ends : (rom : Rom) (list : List Entry) (e : Entry) → MadeEntry rom list e → Ends rom list e
made_ends rom list e made =
    let s = stops rom (shape_context rom.machine list e) e.addr e.words (stands_at Exact rom list e made.keeps)
    (λ earlier i lead is. (allows_at rom list e made earlier i lead is).many) in
    record {
      stops = s;
      sums = sums_of rom list e made s.items s.i s.leads s.is s.last;
      fine =
          all_fine rom list e made s.items s.i s.leads s.is;
    }

-- a made entry has words
pub made_some : (rom : Rom) (list : List Entry) (e : Entry) → MadeEntry rom list e → 1 ≤ e.words
made_some rom list e made = grind (arith, (made_ends rom list e made), words_before, (shape_context rom.machine list e), word_count-some)

-- ---- and the other way round

pub has_callee : (list : List Entry) (o : Option ℕ) (scale : Key) → ((to : ℕ) → o ≡ Some to → HasEntry list to scale)
    → HasCallee o (callee_at list o scale)
has_callee list o scale h = grind (arith, exact_named)

module _ (rom : Rom) (list : List Entry) (e : Entry) where
  abbrev c : Context
  c = shape_context rom.machine list e

  record AtItem (earlier : List Item) (i : Item) : Type 0 where
    fine : IsFine c earlier i
    deep : depth_under i.instr (callee c earlier i.instr) ≤ e.depth
    many : words_before c (i ∷ earlier) ≤ e.words
    holds : HoldsAll e.lit (relative_corners (extent c earlier i.instr) (place_before c earlier))
    ends : AtLast (next_address Shape i) (Sums rom.machine list (i ∷ earlier) e)

  kept_place : (earlier : List Item) (i : Item) → cell_at (rom_word rom) i.at ≡ Holds i.format i.instr → AtItem earlier i
      → (why : ShapeWhy) → MadeKeeps rom list e earlier i.at why
  kept_place earlier i is h why w not = grind (arith, seen_at, has_callee, target, scale_before, next_address)

  -- such an item stands at the place
  abbrev At : List Item → ℕ → Type 0
  At earlier p =
      (format : Format) × (instr : Instr) × (cell_at (rom_word rom) p ≡ Holds format instr)
      × AtItem earlier (record { at = p; format = format; instr = instr })

  at_items : (items : List Item) (i : Item) → LeadsTo Shape (rom_word rom) e.addr items i.at
      → cell_at (rom_word rom) i.at ≡ Holds i.format i.instr → AllFine c (i ∷ items) → depth_before c (i ∷ items) ≤ e.depth
      → words_before c (i ∷ items) ≤ e.words → HoldsAll e.lit (lit_points c (i ∷ items))
      → AtLast (next_address Shape i) (Sums rom.machine list (i ∷ items) e) → AtEachOf At (i ∷ items)
  at_items [] i lead is fine deep many holds ends = (
    tt,
    (
      i.format,
      i.instr,
      is,
      search
          (rules, fine.1, many, ends, all_left (InBox e.lit) (relative_corners (extent c [] i.instr) (place_before c [])) [] holds),
    ),
  )
  at_items (j ∷ items) i lead is fine deep many holds ends =
      let corners = relative_corners (extent c (j ∷ items) i.instr) (place_before c (j ∷ items)) in (
        at_items items j lead.0 lead.1 fine.0 (omega (arith, deep)) (omega (arith, many))
            (all_right (InBox e.lit) corners (lit_points c (j ∷ items)) holds)
            (subst (λ o. AtLast o (Sums rom.machine list (j ∷ items) e)) (sym lead.2) tt),
        (i.format, i.instr, is, search (rules, fine.1, many, ends, all_left (InBox e.lit) corners (lit_points c (j ∷ items)) holds)),
      )

  pub ends_made : Ends rom list e → MadeEntry rom list e
  ends_made h =
      let all : AtEveryPlace Shape (rom_word rom) e.addr At =
      everywhere Shape (rom_word rom) e.addr At h.stops.items h.stops.i h.stops.leads h.stops.is h.stops.last
      (at_items h.stops.items h.stops.i h.stops.leads h.stops.is h.fine (omega (arith, ap (λ (k : Known). k.depth) h.sums.known))
      (omega (arith, ap (λ (k : Known). k.words) h.sums.known)) h.sums.box.holds
      (subst (λ o. AtLast o (Sums rom.machine list (h.stops.i ∷ h.stops.items) e)) (sym h.stops.last) h.sums)) in
      let each : EachItem rom e.addr AtItem =
      λ earlier j l k. let a =
      all earlier j.at l in subst (AtItem earlier)
      (let same : record { at = j.at; format = a.0; instr = a.1 } ≡ j = grind (arith, a.2, k) in same) a.3 in
      record {
        keeps = λ earlier p l. let a = all earlier p l in kept_place earlier (record { at = p; format = a.0; instr = a.1 }) a.2 a.3;
        keyed = λ earlier j l k. (each earlier j l k).fine.keyed;
        box = λ earlier j l k last. (subst (λ o. AtLast o (Sums rom.machine list (j ∷ earlier) e)) last (each earlier j l k).ends).box;
      }

-- ---- good where nothing that is lit at an absolute place leaves the window

pub other_window : (mode : Mode) (rom : Rom) (list : List Entry) (e : Entry) (w v : Window) (earlier : List Item) (p : ℕ)
    (why : ShapeWhy) → why ≢ shape.OffScreen → ShapePlaceKeeps mode w rom list e earlier p why
    → ShapePlaceKeeps mode v rom list e earlier p why
other_window mode rom list e w v earlier p why not = grind (arith, cell_at, rom_word, seen_at, shape_context)

module _ (rom : Rom) (list : List Entry) (w : Window) where
  pub in_window : (mode : Mode) → Good mode w rom list → AllInWindow w rom list
  in_window mode good e c earlier i lead is =
      subst (λ cell. CellKeeps shape.Unmapped shape.Odd (λ j. ShapeKeeps mode w e (seen_at (shape_context rom.machine list e) earlier j))
      i.at cell shape.OffScreen) is (good e c earlier i.at lead shape.OffScreen)

  -- a made entry is good where nothing that its shape lights at an absolute place leaves the window
  pub good_entry : (e : Entry) → MadeEntry rom list e → EachItem rom e.addr (ItemInWindow w (shape_context rom.machine list e))
      → GoodShape Exact w rom list e
  good_entry e made all earlier p lead shape.OffScreen = by_cell (cell_at (rom_word rom) p) refl
    where
      by_cell : (cell : Cell) → cell_at (rom_word rom) p ≡ cell
          → CellKeeps shape.Unmapped shape.Odd (λ j. ShapeKeeps Exact w e (seen_at (shape_context rom.machine list e) earlier j)) p cell
          shape.OffScreen
      by_cell Missing q = λ x. cc x
      by_cell Odd q = λ x. cc x
      by_cell (Holds format i) q = all earlier (record { at = p; format = format; instr = i }) lead q
  good_entry e made all earlier p lead why = made.keeps earlier p lead why w (λ q. cc q)

  pub in_exact : ((e : Entry) → Contains list e → MadeEntry rom list e) → AllInWindow w rom list → Good Exact w rom list
  in_exact each all e c = good_entry e (each e c) (all e c)
