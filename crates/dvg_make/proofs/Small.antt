-- What the maker makes has only small numbers: on either machine a word moves the beam by 1024 screen places at most.
use Rattle.dvg_make.proofs.Common.{Source, rules, Machine, Board, ◌≡◌, ℕ, zero, suc, ◌+◌, ◌<◌, ◌≤◌, List, [], ◌∷◌, Option, Some, None, ap, subst, arith, ints, AllByRecursion, Contains, IfSome, if◌then◌else◌, slice_get, cell_at, Rom, rom_word, Point, Cell, Holds, Format, Instr, Labs, Halt, Jsrl, Rtsl, Jmpl, IsKey, IsEntry, entry_at, End, Entry, Key, LitBox, Empty, MOST_DEPTH, MOST_WORDS, LeadsTo, Context, shape_context, target, callee, callee_words, scale_before, place_before, words_before, depth_before, known_before, InBox, extent_of, relative_corners, extent, Item, Shape, Known, listed_at, all_append, word_count-some, lit_points, IsLeast, MadeEntry, keyed_context, entry_of, AllFine, Profile, ℤ, pos, negsuc, neg_ℤ, ◌*◌, ◌/◌, ◌%◌, nat_le, nat_tests, ◌≤ℤ◌, ◌*ℤ◌, ◌==◌, origin, effective_scale, factor, rounded, axis_move, displacement, labs_place, opcode, labs_field, magnitude_and_sign, instruction_of, word_count, DrawFields, Short, Long, Draws, IsEnd, IsBox, callee_effect, effect_of, callee_extent, all_map, Bool, true}
use Rattle.std.proofs.Math.Pow.{pow_mono}
use Rattle.std.proofs.lemmas.Nat.{mul-le}
use Rattle.dvg_items.specs.Bounds.{IsReached, IsReachedPlace, IsReachedBox, IsReachedEffect, IsReachedExtent}
use Rattle.dvg_items.proofs.Reached.{reached_more, effect_more, extent_more, place_after, corners_reached, wall, in_wall}
use Rattle.dvg_make.proofs.Matching.{exact_named}
use Rattle.dvg_make.proofs.Ends.{callee_less, made_ends}
use Rattle.dvg_make.proofs.Knowing.{IsOrdered}

-- ---- points, places and boxes

-- no word moves the place further
abbrev WORD_REACH : ℕ
WORD_REACH = 1048576

-- the numbers of an entry are small for its words
record IsSmallEntry (e : Entry) : Type 0 where
  stop : IsReachedPlace WORD_REACH e.words e.stop
  lit : IsReachedBox WORD_REACH e.words e.lit

small_origin : (n : ℕ) → IsReached WORD_REACH n origin
small_origin n = record { left = omega (arith, ints); right = omega (arith, ints); down = omega (arith, ints); up = omega (arith, ints) }

-- ---- what a draw does

-- no further from 0
record IsUpTo (n : ℕ) (z : ℤ) : Type 0 where
  low : neg_ℤ (pos n) ≤ℤ z
  high : z ≤ℤ pos n

-- a size has ten bits and a sign
abbrev IsSmallDraw : DrawFields → Type 0
IsSmallDraw d = IsUpTo 1023 d.dx × IsUpTo 1023 d.dy

small_factor : (local global : ℕ) → factor local global ≤ 1024
small_factor local global = grind (arith, nat_le, nat_tests, pow_mono)

small_product : (z : ℤ) (f : ℕ) → IsUpTo 1023 z → f ≤ 1024 → IsUpTo WORD_REACH (z *ℤ pos f)
small_product z f h le = grind (arith, pos, mul-le, negsuc)

rounded_few : (n : ℕ) → n ≤ 1048576 → rounded n ≤ 1048576
rounded_few n le = omega (arith, le)

small_move : (machine : Machine) (size : ℤ) (local global : ℕ) → IsUpTo 1023 size → IsUpTo WORD_REACH (axis_move machine size local global)
small_move Profile size local global h = small_product size (factor local global) h (small_factor local global)
small_move Board size local global h =
    grind (
      arith,
      (nat_le (effective_scale local global) 9),
      (pos (factor local global)),
      (pos 0),
      pos,
      rounded_few,
      negsuc,
      (small_product size (factor local global) h (small_factor local global)),
      (small_factor local global),
    )

small_displacement : (machine : Machine) (d : DrawFields) (g : ℕ) → IsSmallDraw d → IsReached WORD_REACH 1 (displacement machine d g)
unfolding displacement
small_displacement machine d g h = grind (arith, (small_move machine d.dx d.lscale g h.0), (small_move machine d.dy d.lscale g h.1))

-- ---- what an instruction says

-- an instruction of this format: a LABS sets the beam no further than its words may move it
abbrev IsSmallInstr : Machine → Format → Instr → Type 0
IsSmallInstr machine format (Draws d) = IsSmallDraw d
IsSmallInstr machine format (Labs x y g) = IsReached WORD_REACH (word_count format) (labs_place machine x y)
IsSmallInstr machine format i = Unit {0}

small_size : (sign magnitude : ℕ) → magnitude ≤ 1023 → IsUpTo 1023 (magnitude_and_sign sign magnitude)
small_size sign magnitude le = grind (arith, neg_ℤ, pos)

small_labs : (machine : Machine) (first second : ℕ)
    → IsReached WORD_REACH 2 (labs_place machine (labs_field machine second) (labs_field machine first))
small_labs machine first second = grind (arith, nat_le, pos, negsuc, nat_tests)

by_opcode : (machine : Machine) (format : Format) (a b c d e f z : Bool) (v s : DrawFields) (x y g t : ℕ) → IsSmallDraw v → IsSmallDraw s
    → (b ≡ true → IsSmallInstr machine format (Labs x y g))
    → IfSome (if a then Some (Draws v) else if b then (if z then Some (Labs x y g) else None) else if c then Some Halt else if d then
    Some (Jsrl t) else if e then Some Rtsl else if f then Some (Jmpl t) else Some (Draws s)) (IsSmallInstr machine format)
by_opcode machine format a b c d e f z v s x y g t h k l = grind (arith)

small_instr : (machine : Machine) (format : Format) (first second : ℕ) → ((opcode first == 10) ≡ true → 2 ≤ word_count format)
    → IfSome (instruction_of machine first second) (IsSmallInstr machine format)
unfolding instruction_of
small_instr machine format first second long =
    search (
      rules,
      by_opcode,
      (small_size (second / 1024 % 2) (second % 1024) (omega arith)),
      (small_size (first / 1024 % 2) (first % 1024) (omega arith)),
      (small_size (first / 4 % 2) (256 * (first % 4)) (omega arith)),
      (small_size (first / 1024 % 2) (256 * (first / 256 % 4)) (omega arith)),
      (reached_more WORD_REACH),
      (small_labs machine first second),
    )

abbrev IsSmallCell : Machine → Cell → Type 0
IsSmallCell machine (Holds format i) = IsSmallInstr machine format i
IsSmallCell machine cell = Unit {0}

small_cell : (word : Source) (p : ℕ) → IsSmallCell word.machine (cell_at word p)
unfolding cell_at
small_cell word p = grind (arith, nat_tests, (small_instr word.machine Long), (small_instr word.machine Short))

small_held : (word : Source) (i : Item) → cell_at word i.at ≡ Holds i.format i.instr → IsSmallInstr word.machine i.format i.instr
small_held word i is = subst (IsSmallCell word.machine) is (small_cell word i.at)

-- ---- what a called shape does

small_called : (o : Option Entry) → IfSome o IsSmallEntry → IsReachedEffect WORD_REACH (callee_words o) (callee_effect o)
small_called o h = grind (arith, small_origin)

small_shown : (o : Option Entry) → IfSome o IsSmallEntry → IsReachedExtent WORD_REACH (callee_words o) (callee_extent o)
small_shown o h = grind (arith)

-- ---- what an item does

small_effect : (machine : Machine) (format : Format) (i : Instr) (scale : Key) (o : Option Entry) → IsSmallInstr machine format i
    → IfSome o IsSmallEntry → IsReachedEffect WORD_REACH (word_count format + callee_words o) (effect_of machine i scale o)
small_effect machine format (Draws d) scale o h k =
    grind (arith, small_displacement, (reached_more WORD_REACH 1 (word_count format + callee_words o)), word_count-some)
small_effect machine format (Labs x y g) scale o h k =
    reached_more WORD_REACH (word_count format) (word_count format + callee_words o) (labs_place machine x y) (omega arith) h
small_effect machine format (Jsrl to) scale o h k =
    effect_more WORD_REACH (callee_words o) (word_count format + callee_words o) (callee_effect o) (omega arith) (small_called o k)
small_effect machine format (Jmpl to) scale o h k =
    effect_more WORD_REACH (callee_words o) (word_count format + callee_words o) (callee_effect o) (omega arith) (small_called o k)
small_effect machine format i scale o h k = small_origin (word_count format + callee_words o)

small_extent : (machine : Machine) (format : Format) (i : Instr) (scale : Key) (o : Option Entry) → IsSmallInstr machine format i
    → IfSome o IsSmallEntry → IsReachedExtent WORD_REACH (word_count format + callee_words o) (extent_of machine i scale o)
small_extent machine format (Draws d) scale o h k =
    grind (arith, small_origin, small_displacement, (reached_more WORD_REACH 1 (word_count format + callee_words o)), word_count-some)
small_extent machine format i scale o h k = search (rules, (extent_more WORD_REACH), callee_words, word_count-some, small_shown)

-- ---- along the items

-- the fields of each item, and the entry that it calls, are small
record IsSmallItem (c : Context) (earlier : List Item) (i : Item) : Type 0 where
  fields : IsSmallInstr c.machine i.format i.instr
  callee : IfSome (callee c earlier i.instr) IsSmallEntry

abbrev AllSmall : Context → List Item → Type 0
AllSmall c [] = Unit {0}
AllSmall c (i ∷ earlier) = AllSmall c earlier × IsSmallItem c earlier i

module _ (machine : Machine) (list : List Entry) (key : Key) where
  abbrev c : Context
  c = keyed_context machine list key

  place_small : (items : List Item) → AllSmall c items → IsReachedPlace WORD_REACH (words_before c items) (place_before c items)
  place_small [] h = small_origin 0
  place_small (i ∷ earlier) h =
      place_after WORD_REACH (words_before c earlier) (word_count i.format + callee_words (callee c earlier i.instr))
      (words_before c (i ∷ earlier)) (place_before c earlier)
      (effect_of machine i.instr (scale_before c earlier) (callee c earlier i.instr)) (omega arith)
      (place_small earlier h.0)
      (small_effect machine i.format i.instr (scale_before c earlier) (callee c earlier i.instr) h.1.fields h.1.callee)

  points_small : (items : List Item) → AllSmall c items → AllByRecursion (IsReached WORD_REACH (words_before c items)) (lit_points c items)
  points_small [] h = tt
  points_small (i ∷ earlier) h =
      all_append (IsReached WORD_REACH (words_before c (i ∷ earlier)))
      (relative_corners (extent c earlier i.instr) (place_before c earlier)) (lit_points c earlier)
      (corners_reached WORD_REACH (words_before c earlier) (word_count i.format + callee_words (callee c earlier i.instr))
      (words_before c (i ∷ earlier)) (extent c earlier i.instr) (place_before c earlier) (omega arith)
      (place_small earlier h.0)
      (small_extent machine i.format i.instr (scale_before c earlier) (callee c earlier i.instr) h.1.fields h.1.callee))
      (all_map (IsReached WORD_REACH (words_before c earlier)) (IsReached WORD_REACH (words_before c (i ∷ earlier)))
      (lit_points c earlier) (λ p. reached_more WORD_REACH (words_before c earlier) (words_before c (i ∷ earlier)) p (omega arith))
      (points_small earlier h.0))

-- ---- the least box

record IsGoodBox (n : ℕ) (box : LitBox) : Type 0 where
  small : IsReachedBox WORD_REACH n box
  ordered : IsOrdered box

least_good : (n : ℕ) (ps : List Point) (box : LitBox) → AllByRecursion (IsReached WORD_REACH n) ps → IsLeast ps box → IsGoodBox n box
least_good n [] box h k = grind (arith, (k.least Empty tt))
least_good n (p ∷ ps) box h k =
    search (
      rules,
      h.0,
      k.holds.0,
      k.least (wall WORD_REACH n) (all_map (IsReached WORD_REACH n) (InBox (wall WORD_REACH n)) (p ∷ ps) (in_wall WORD_REACH n) h),
    )

-- ---- made entries

-- the entries that items call are small
abbrev SmallCalls : Rom → List Entry → ℕ → Key → Type 0
SmallCalls rom list addr key =
    (earlier : List Item) (i : Item) → LeadsTo Shape (rom_word rom) addr earlier i.at → cell_at (rom_word rom) i.at ≡ Holds i.format i.instr
    → (to : ℕ) (g : Entry) → target Shape i.instr ≡ Some to
    → entry_at list to (scale_before (keyed_context rom.machine list key) earlier) ≡ Some g → IsSmallEntry g

-- what leads to a place, and one item more
before_small : (rom : Rom) (list : List Entry) (addr : ℕ) (key : Key) → SmallCalls rom list addr key → (items : List Item) (p : ℕ)
    → LeadsTo Shape (rom_word rom) addr items p → AllFine (keyed_context rom.machine list key) items
    → AllSmall (keyed_context rom.machine list key) items
before_small rom list addr key calls [] p lead fine = tt
before_small rom list addr key calls (j ∷ earlier) p lead fine = (
  before_small rom list addr key calls earlier j.at lead.0 fine.0,
  grind (arith, (small_held (rom_word rom) j), exact_named, (calls earlier j)),
)

all_small : (rom : Rom) (list : List Entry) (addr : ℕ) (key : Key) → SmallCalls rom list addr key → (items : List Item) (i : Item)
    → LeadsTo Shape (rom_word rom) addr items i.at → cell_at (rom_word rom) i.at ≡ Holds i.format i.instr
    → AllFine (keyed_context rom.machine list key) (i ∷ items) → AllSmall (keyed_context rom.machine list key) (i ∷ items)
all_small rom list addr key calls items i lead is fine = (
  before_small rom list addr key calls items i.at lead fine.0,
  grind (arith, (small_held (rom_word rom) i), exact_named, (calls items i)),
)

-- by the number of words
small_up_to : (rom : Rom) (list : List Entry) → ((e : Entry) → Contains list e → MadeEntry rom list e) → (n : ℕ) (e : Entry)
    → MadeEntry rom list e → e.words < n → IsSmallEntry e
small_up_to rom list all zero e made lt = absurd (omega (arith, lt))
small_up_to rom list all (suc n) e made lt =
    let h = made_ends rom list e made in
    let calls : SmallCalls rom list e.addr e.key =
    λ earlier j l k to g t f. small_up_to rom list all n g (all g (listed_at list to _ g f).listed)
    (let less : g.words < e.words = callee_less rom list e made earlier j l k to g t f in omega (arith, lt, less)) in
    let small = all_small rom list e.addr e.key calls h.stops.items h.stops.i h.stops.leads h.stops.is h.fine in
    let place : IsReachedPlace WORD_REACH e.words e.stop =
    subst (λ (k : Known). IsReachedPlace WORD_REACH k.words k.place) h.sums.known
    (place_small rom.machine list e.key (h.stops.i ∷ h.stops.items) small) in
    let many : words_before (shape_context rom.machine list e) (h.stops.i ∷ h.stops.items) ≡ e.words =
    ap (λ (k : Known). k.words) h.sums.known in
    let points =
    subst (λ n. AllByRecursion (IsReached WORD_REACH n) (lit_points (shape_context rom.machine list e) (h.stops.i ∷ h.stops.items)))
    many (points_small rom.machine list e.key (h.stops.i ∷ h.stops.items) small) in
    record {
      stop = place;
      lit = (least_good e.words (lit_points (shape_context rom.machine list e) (h.stops.i ∷ h.stops.items)) e.lit
          points h.sums.box).small;
    }

-- ---- within the limits

place_within : (n : ℕ) (place : End) → n ≤ MOST_WORDS → IsReachedPlace WORD_REACH n place → IsEnd place
place_within n place le h = grind (arith)

box_within : (n : ℕ) (box : LitBox) → n ≤ MOST_WORDS → IsGoodBox n box → IsBox box
box_within n box le h = search (rules)

-- ---- its address

in_rom : (rom : Rom) (p : ℕ) (format : Format) (i : Instr) → cell_at (rom_word rom) p ≡ Holds format i → (rom.map.rom_first ≤ p)
    × (p ≤ rom.map.rom_last)
unfolding cell_at
in_rom rom p format i is = grind (arith, nat_le, slice_get, nat_tests)

-- something stands where the items start
first_in_rom : (rom : Rom) (addr : ℕ) (items : List Item) (p : ℕ) (format : Format) (i : Instr)
    → LeadsTo Shape (rom_word rom) addr items p → cell_at (rom_word rom) p ≡ Holds format i → (rom.map.rom_first ≤ addr)
    × (addr ≤ rom.map.rom_last)
first_in_rom rom addr [] p format i lead is = grind (arith, in_rom)
first_in_rom rom addr (j ∷ earlier) p format i lead is = first_in_rom rom addr earlier j.at j.format j.instr lead.0 lead.1

-- ---- what the maker makes is an entry

pub made_is_entry : (rom : Rom) (list : List Entry) → ((e : Entry) → Contains list e → MadeEntry rom list e)
    → (addr : ℕ) (key : Key) (items : List Item) (i : Item) (lit : LitBox)
    → LeadsTo Shape (rom_word rom) addr items i.at → cell_at (rom_word rom) i.at ≡ Holds i.format i.instr
    → AllFine (keyed_context rom.machine list key) (i ∷ items) → IsLeast (lit_points (keyed_context rom.machine list key) (i ∷ items)) lit
    → words_before (keyed_context rom.machine list key) (i ∷ items) ≤ MOST_WORDS
    → depth_before (keyed_context rom.machine list key) (i ∷ items) ≤ MOST_DEPTH
    → IsKey key → IsKey (scale_before (keyed_context rom.machine list key) (i ∷ items))
    → IsEntry rom.map.rom_first rom.map.rom_last (entry_of addr key (known_before (keyed_context rom.machine list key) (i ∷ items)) lit)
made_is_entry rom list made addr key items i lit lead is fine least words depth key_is scale_is =
    let small = all_small rom list addr key
    (λ earlier j l k to g t f. small_up_to rom list made (g.words + 1) g (made g (listed_at list to _ g f).listed) (omega arith))
    items i lead is fine in
    let n : ℕ = words_before (keyed_context rom.machine list key) (i ∷ items) in
    let box = least_good n (lit_points (keyed_context rom.machine list key) (i ∷ items)) lit
    (points_small rom.machine list key (i ∷ items) small) least in
    let there = first_in_rom rom addr items i.at i.format i.instr lead is in
    search (
      rules,
      there.0,
      there.1,
      key_is,
      place_within n (place_before (keyed_context rom.machine list key) (i ∷ items)) words
          (place_small rom.machine list key (i ∷ items) small),
      box_within n lit words box,
      depth,
      words,
      scale_is,
    )
