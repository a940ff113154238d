-- A weaker claim of a good shape is good, and so is an item before a good tail.
use Rattle.dvg_check.proofs.Common.{ℤ, shape_context, shift, moved, InWindow, Machine, arith, List, None, Some, refl, sym, ap, subst, inl, inr, max, pos, ⊎_elim, ◌≡◌, ◌⊎◌, ◌≤◌, ◌∷◌, ◌∙◌, ℕ, [], ints, cell_at, word_count, Rom, rom_word, Window, Point, Cell, Holds, End, Rel, Abs, Entry, Key, LitBox, Span, LeadsTo, next_address, Context, known_before, place_past, callee_words, depth_under, target, PlaceKnown, ScaleKnown, LitInWindow, LitInBox, InBox, IsInside, seen_at, Item, Shape, Known, LitExtent, Effect, Seen, CellKeeps, ShapeKeeps, GoodShape, Mode, Bound, Exact, ShapeWhy, Between, item_same, too_long, seen_by, ClaimsLess, known_at_end, claimed, place_over, known_over, first_seen, MayStandAt, MayStandFirst, IsBehind, last_item, after_item, Option, ◌+◌, ◌-◌, ◌<◌, ADDRESS_END, IsTail, IfSome, next_further, end_of, entry_of, IsSmall, Tail, BoxInWindow}
use Rattle.dvg_items.specs.declared.known.Effect.TheVariants.{Moves}
use Rattle.dvg_items.proofs.PlaceLaw.{moves_on}
use Rattle.dvg_check.specs.declared.fault.ShapeWhy.TheVariants as shape
use Rattle.dvg_check.proofs.Runs.{counts_le}
use Rattle.dvg_check.proofs.TailSizes.{IsSmall-more}

-- ---- rules of a weaker claim

-- what is good in the one mode is good in the other
abbrev pub Weakens : Mode → Mode → Type 0
Weakens mode Bound = Unit {0}
Weakens Exact Exact = Unit {0}
Weakens Bound Exact = ⊥

-- what keeps all rules there keeps all of others, whatever stands at the place
cell_keeps : (K L : Item → ShapeWhy → Type 0) (p : ℕ) (cell : Cell)
    → ((i : Item) → ((why : ShapeWhy) → K i why) → (why : ShapeWhy) → L i why)
    → ((why : ShapeWhy) → CellKeeps shape.Unmapped shape.Odd K p cell why) → (why : ShapeWhy)
    → CellKeeps shape.Unmapped shape.Odd L p cell why
cell_keeps K L p (Holds format instr) f h = f (record { at = p; format = format; instr = instr }) h
cell_keeps K L p cell f h = h

in_more : (part whole : LitBox) (p : Point) → IsInside part whole → InBox part p → InBox whole p
in_more part whole p inside h = grind (arith, ints)

pub lit_in_more : (part whole : LitBox) (lit : LitExtent) (place : End) → IsInside part whole → LitInBox part lit place
    → LitInBox whole lit place
lit_in_more part whole lit place inside h = grind (arith, in_more)

less_keeps : (mode to : Mode) (w : Window) (e strong : Entry) (v : Seen) → Weakens mode to → ClaimsLess mode e strong
    → ((why : ShapeWhy) → ShapeKeeps mode w strong v why) → (why : ShapeWhy) → ShapeKeeps to w e v why
less_keeps mode to w e strong v weakens c h shape.BoxTooSmall = lit_in_more strong.lit e.lit v.extent v.place c.lit (h shape.BoxTooSmall)
less_keeps mode to w e strong v weakens c h why =
    grind (
      arith,
      (h why),
      (h shape.TooDeep),
      (h shape.TooManyWords),
      c.stop,
      c.scale,
      c.words,
      c.depth,
      (counts_le mode strong.depth e.depth c.depth),
      (counts_le mode strong.words e.words c.words),
    )

-- what an item of a shape keeps of a claim
abbrev Kept : Mode → Window → Rom → List Entry → Entry → List Item → Item → ShapeWhy → Type 0
Kept mode w rom list e earlier i = ShapeKeeps mode w e (seen_at (shape_context rom.machine list e) earlier i)

-- a weaker claim of a good shape is good
pub good_less : (mode to : Mode) (w : Window) (rom : Rom) (list : List Entry) (e strong : Entry) → Weakens mode to
    → ClaimsLess mode e strong → GoodShape mode w rom list strong → GoodShape to w rom list e
good_less mode to w rom list e strong weakens c good earlier p lead why =
    cell_keeps (Kept mode w rom list strong earlier) (Kept to w rom list e earlier) p (cell_at (rom_word rom) p)
    (λ i h. less_keeps mode to w e strong (seen_at (shape_context rom.machine list e) earlier i) weakens c (λ x. rw c.key (h x)))
    (good earlier p (rw c.addr at lead)) why

pub weaker_claim : (mode : Mode) (w : Window) (rom : Rom) (list : List Entry) (e strong : Entry) → ClaimsLess mode e strong
    → GoodShape mode w rom list strong → GoodShape mode w rom list e
weaker_claim mode w rom list e strong c good = good_less mode mode w rom list e strong (grind (arith)) c good

-- ---- rules behind what is known

-- a point in a tail's box, from where the tail stands
window_over : (w : Window) (l r d t : ℤ) (first second p : Point) → BoxInWindow w (moved (Span l r d t) first)
    → InBox (Span l r d t) (shift second p) → InWindow w (shift (shift first second) p)
window_over w l r d t first second p m h = omega (arith, ints, m, h)

box_over : (whole : LitBox) (l r d t : ℤ) (first second p : Point) → IsInside (moved (Span l r d t) first) whole
    → InBox (Span l r d t) (shift second p) → InBox whole (shift (shift first second) p)
box_over whole l r d t first second p m h = grind (arith, ints)

-- what is lit at a relative place in a tail's box lies, from where the tail stands, where it may
lit_over : (w : Window) (whole box : LitBox) (lit : LitExtent) (place second : End) → MayStandAt w whole box place
    → PlaceKnown lit second → ScaleKnown lit → LitInWindow w lit second → LitInBox box lit second
    → PlaceKnown lit (place_over place second) × LitInWindow w lit (place_over place second) × LitInBox whole lit (place_over place second)
lit_over w whole (Span l r d t) (Between a b) (Abs u v) (Rel x y) m known scale shown boxed = (
  grind (arith),
  (
    window_over w l r d t (record { x = u; y = v }) (record { x = x; y = y }) a m boxed.0,
    (window_over w l r d t (record { x = u; y = v }) (record { x = x; y = y }) b m boxed.1.0, tt),
  ),
  tt,
)
lit_over w whole (Span l r d t) (Between a b) (Rel u v) (Rel x y) m known scale shown boxed = (
  grind (arith),
  tt,
  (
    box_over whole l r d t (record { x = u; y = v }) (record { x = x; y = y }) a m boxed.0,
    (box_over whole l r d t (record { x = u; y = v }) (record { x = x; y = y }) b m boxed.1.0, tt),
  ),
)
lit_over w whole box lit place second m known scale shown boxed = (grind (arith), grind (arith), grind (arith))

-- the rules of a tail's item, seen from where the tail stands
abbrev pub seen_over : Known → Seen → Seen
seen_over first v =
    record { item = v.item; place = place_over first.place v.place; extent = v.extent; callee = v.callee; after = known_over first v.after }

over_keeps : (mode : Mode) (w : Window) (addr : ℕ) (key : Key) (box : LitBox) (first : Known) (tail : Entry) (v : Seen)
    → MayStandAt w box tail.lit first.place → ((why : ShapeWhy) → ShapeKeeps mode w tail v why) → (why : ShapeWhy)
    → ShapeKeeps mode w (claimed addr key box (known_over first (known_at_end tail))) (seen_over first v) why
over_keeps mode w addr key box first tail v m h shape.BeamUnknown =
    (lit_over w box tail.lit v.extent first.place v.place m (h shape.BeamUnknown) (h shape.ScaleUnknown) (h shape.OffScreen)
    (h shape.BoxTooSmall)).0
over_keeps mode w addr key box first tail v m h shape.OffScreen =
    (lit_over w box tail.lit v.extent first.place v.place m (h shape.BeamUnknown) (h shape.ScaleUnknown) (h shape.OffScreen)
    (h shape.BoxTooSmall)).1
over_keeps mode w addr key box first tail v m h shape.BoxTooSmall =
    (lit_over w box tail.lit v.extent first.place v.place m (h shape.BeamUnknown) (h shape.ScaleUnknown) (h shape.OffScreen)
    (h shape.BoxTooSmall)).2
over_keeps mode w addr key box first tail v m h why = grind (arith, (h why), max)

-- ---- what is known behind what is known

effect_over : (f : Effect) (place second : End) → place_past f (place_over place second) ≡ place_over place (place_past f second)
effect_over (Moves d) place (Rel x y) = sym (moves_on place (record { x = x; y = y }) d)
effect_over f place second = refl

pub seen_by_over : (a : Machine) (list : List Entry) (first second : Known) (i : Item)
    → seen_by a list Shape (known_over first second) i ≡ seen_over first (seen_by a list Shape second i)
seen_by_over a list first second i = grind (arith, effect_over, word_count, callee_words, max, depth_under, target)

-- nothing is added where the second part has no item
pub over_none : (first : Known) (key : Key) → first.scale ≡ key
    → first ≡ known_over first (record { place = Rel (pos 0) (pos 0); scale = key; words = 0; depth = 0 })
over_none first key is = grind (arith, pos, max)

-- ---- the laws

first_keeps : (mode : Mode) (w : Window) (rom : Rom) (list : List Entry) (key : Key) (box : LitBox) (i : Item) (end : Known)
    → MayStandFirst rom list key box i
    → (first_seen rom.machine list key i).after.words ≤ end.words → (first_seen rom.machine list key i).after.depth ≤ end.depth
    → (next_address Shape i ≡ None → end ≡ (first_seen rom.machine list key i).after) → (why : ShapeWhy)
    → Kept mode w rom list (claimed i.at key box end) [] i why
first_keeps mode w rom list key box i end m words depth ends = grind (arith, next_address)

-- an item that ends a shape is good alone
pub last_item_good : (mode : Mode) (w : Window) (rom : Rom) (list : List Entry) (key : Key) (box : LitBox) (i : Item)
    → MayStandFirst rom list key box i → next_address Shape i ≡ None → GoodShape mode w rom list (last_item rom.machine list key box i)
last_item_good mode w rom list key box i m last [] p lead why =
    rw (lead, m.there) (first_keeps mode w rom list key box i (first_seen rom.machine list key i).after m (omega arith) (omega arith)
    (λ none. refl) why)
last_item_good mode w rom list key box i m last (j ∷ earlier) p lead why =
    absurd (too_long Shape (rom_word rom) i.at [] i refl m.there last (j ∷ earlier) p lead (omega arith))

-- the items of a shape: the first, and those of the tail
module _ (mode : Mode) (w : Window) (rom : Rom) (list : List Entry) (key : Key) (box : LitBox) (i : Item) (tail : Entry)
    (m : MayStandFirst rom list key box i) (b : IsBehind w rom.machine list key box i tail) where
  abbrev whole : Context
  whole = record { kind = Shape; machine = rom.machine; list = list; scale = key }

  abbrev past : Known
  past = (first_seen rom.machine list key i).after

  -- the items behind the first lead there from the tail's address
  record Split (earlier : List Item) (p : ℕ) : Type 0 where
    rest : List Item
    leads : LeadsTo Shape (rom_word rom) tail.addr rest p
    knows : known_before whole earlier ≡ known_over past (known_before (shape_context rom.machine list tail) rest)

  knows_on : (earlier : List Item) (p : ℕ) (s : Split earlier p) (j : Item)
      → seen_at whole earlier j ≡ seen_over past (seen_at (shape_context rom.machine list tail) s.rest j)
  knows_on earlier p s j =
      grind (
        arith,
        (seen_by_over rom.machine list past (known_before (shape_context rom.machine list tail) s.rest) j),
        (known_before (shape_context rom.machine list tail) s.rest),
        s.knows,
      )

  split : (earlier : List Item) (p : ℕ) → LeadsTo Shape (rom_word rom) i.at earlier p → ((earlier ≡ []) × (p ≡ i.at)) ⊎ Split earlier p
  split [] p lead = inl (refl, lead)
  split (j ∷ earlier) p lead =
      ⊎_elim
      (λ (h : (earlier ≡ []) × (j.at ≡ i.at)). grind (
        arith,
        b.next,
        (item_same j i h.1 (sym lead.1 ∙ ap (cell_at (rom_word rom)) h.1 ∙ m.there)),
        (cell_at (rom_word rom)),
        (rom_word rom),
        (next_address Shape),
        (known_before whole),
        (over_none past tail.key (sym b.scale)),
      ))
      (λ (s : Split earlier j.at). inr
      (record { rest = j ∷ s.rest; leads = (s.leads, lead.1, lead.2); knows = ap (λ (v : Seen). v.after) (knows_on earlier j.at s j) }))
      (split earlier j.at lead.0)

  -- an item before a good tail is good
  pub item_before_tail : GoodShape mode w rom list tail → GoodShape mode w rom list (after_item rom.machine list key box i tail)
  item_before_tail good earlier p lead why =
      ⊎_elim
      (λ (h : (earlier ≡ []) × (p ≡ i.at)). rw (h.0, h.1, m.there)
      (first_keeps mode w rom list key box i (known_over past (known_at_end tail)) m (omega arith) (omega arith)
      (λ none. cc (b.next, none)) why))
      (λ (s : Split earlier p).
      cell_keeps (Kept mode w rom list tail s.rest) (Kept mode w rom list (after_item rom.machine list key box i tail) earlier) p
      (cell_at (rom_word rom) p)
      (λ j h x. rw (knows_on earlier p s j)
      (over_keeps mode w i.at key box past tail (seen_at (shape_context rom.machine list tail) s.rest j) b.lit h x))
      (good s.rest p s.leads) why)
      (split earlier p lead)

-- what is made of an item, alone or before a tail, is a tail
module _ (w : Window) (rom : Rom) (list : List Entry) (key : Key) (i : Item) (first : Tail)
    (is : end_of first ≡ (first_seen rom.machine list key i).after) (stands : MayStandFirst rom list key first.lit i) where
  pub alone : IsSmall 1 first → i.at < ADDRESS_END → next_address Shape i ≡ None → IsTail w rom list i.at key first
  alone small near last =
      record {
        good = λ mode. subst (λ (k : Known). GoodShape mode w rom list (claimed i.at key first.lit k)) (sym is)
            (last_item_good mode w rom list key first.lit i stands last);
        small = IsSmall-more 1 (ADDRESS_END + 2 - i.at) first (omega (arith, near)) small;
      }

  pub before_some : (next : ℕ) (tail : Tail) (o : Option Tail) → next_address Shape i ≡ Some next
      → IsTail w rom list next first.scale tail → IfSome o (λ whole. end_of whole ≡ known_over (end_of first) (end_of tail))
      → IfSome o (λ whole. IsInside first.lit whole.lit)
      → IfSome o (λ whole. MayStandAt w whole.lit tail.lit first.stop)
      → IfSome o (λ whole. (n : ℕ) → IsSmall n tail → IsSmall (n + 1) whole) → next ≤ ADDRESS_END + 2
      → IfSome o (IsTail w rom list i.at key)
  before_some next tail None goes t value inside lit small near = tt
  before_some next tail (Some whole) goes t value inside lit small near =
      let seen = first_seen rom.machine list key i in
      let same : end_of whole ≡ known_over seen.after (end_of tail) = value ∙ ap (λ (k : Known). known_over k (end_of tail)) is in
      let more : MayStandFirst rom list key whole.lit i =
      search (stands, lit_in_more first.lit whole.lit seen.extent seen.place inside stands.boxed) in
      let behind : IsBehind w rom.machine list key whole.lit i (entry_of next first.scale tail) =
      search (ap (λ (k : Known). k.scale) is, subst (λ (k : Known). MayStandAt w whole.lit tail.lit k.place) is lit) in
      record {
        good = λ mode. subst (λ (k : Known). GoodShape mode w rom list (claimed i.at key whole.lit k)) (sym same)
            (item_before_tail mode w rom list key whole.lit i (entry_of next first.scale tail) more behind (t.good mode));
        small = IsSmall-more (ADDRESS_END + 2 - next + 1) (ADDRESS_END + 2 - i.at) whole
            (omega (arith, next_further Shape i next goes, near)) (small (ADDRESS_END + 2 - next) t.small);
      }
