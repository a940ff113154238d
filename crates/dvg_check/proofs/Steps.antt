-- One item: what stands at a place, and what a draw or a LABS does.
use Rattle.dvg_check.proofs.Common.{Source, arith, Some, ap, List, nat_le, nat_lt, ◌≡◌, ◌∷◌, ◌++◌, ◌∙◌, ℕ, nat_tests, AllByRecursion, shift, displacement, cell_of_format, cell_of_words, format_of, cell_at, word_count, places, State, next_status, after_instruction, after_cell, after_fetch, Memory, InRom, IsMemory, word_at, Point, Holds, Format, Instr, End, Rel, Abs, Lost, shift_shift, PlaceFits, ScaleFits, place_moved_by, Context, place_before, callee, scale_before, place_past, word_of, Item, Kind, Shape, Frame, slice_get, fetches, InFrame, effect_of, IsDrawOrLabs, Past, OneItem}
use Rattle.std.proofs.lemmas.Option.{slice_get_within}

-- ---- what stands at a place

pub fetches_there : (get : Source) (p : ℕ) (format : Format) (i : Instr) → cell_at get p ≡ Holds format i
    → fetches (get.word p) p ≡ places format p
unfolding cell_at
fetches_there get p format i e = grind (arith, places, format_of)

-- what has all words of another on the same machine has its instructions
record Within (get all : Source) (Ok : ℕ → Type 0) : Type 0 where
  machine : get.machine ≡ all.machine
  same : (p x : ℕ) → get.word p ≡ Some x → all.word p ≡ Some x
  ok : (p x : ℕ) → get.word p ≡ Some x → Ok p

-- ---- the two parts of the memory

abbrev pub IsOwn : Kind → Memory → ℕ → Type 0
IsOwn Shape m p = InRom m.rom.map p
IsOwn Frame m p = InFrame m.frame p

within : (kind : Kind) (m : Memory) → IsMemory m → Within (word_of kind m) (word_at m) (IsOwn kind m)
within kind m mem = grind (arith, nat_le, slice_get, nat_tests, nat_lt, slice_get_within)

pub stands : (kind : Kind) (m : Memory) (p : ℕ) (format : Format) (i : Instr) → IsMemory m → cell_at (word_of kind m) p ≡ Holds format i
    → cell_at (word_at m) p ≡ Holds format i
unfolding cell_at
stands kind m p format i mem e = let h = within kind m mem in grind (arith, cell_of_words, format_of)

pub own : (kind : Kind) (m : Memory) (p : ℕ) (format : Format) (i : Instr) → IsMemory m → cell_at (word_of kind m) p ≡ Holds format i
    → AllByRecursion (IsOwn kind m) (places format p)
unfolding cell_at
own kind m p format i mem e = let h = within kind m mem in grind (arith, fetches_there, format_of, cell_of_format, places)

-- ---- the step

pub next_there : (m : Memory) (s : State) (format : Format) (i : Instr) → cell_at (word_at m) s.pc ≡ Holds format i
    → next_status m s ≡ after_instruction m.rom.machine i format (record s { fetched = places format s.pc ++ s.fetched })
unfolding next_status
next_there m s format i e = grind (arith, after_cell, after_fetch, after_instruction, fetches_there, word_at)

-- ---- what is known after an item

pub fits_moved : (base p d : Point) (k : End) → PlaceFits k base p → PlaceFits (place_moved_by k d) base (shift p d)
fits_moved base p d (Rel x y) h = ap (λ r. shift r d) h ∙ shift_shift base (record { x = x; y = y }) d
fits_moved base p d (Abs x y) h = ap (λ r. shift r d) h
fits_moved base p d Lost h = tt

-- ---- the law on one item

item_step :
    (m : Memory) (c : Context) (earlier : List Item) (at : ℕ) (format : Format) (instr : Instr) (base : Point) (s : State)
    → c.machine ≡ m.rom.machine → cell_at (word_at m) at ≡ Holds format instr → IsDrawOrLabs instr
    → s.pc ≡ at → PlaceFits (place_before c earlier) base s.place → ScaleFits (scale_before c earlier) s.scale
    → (t : State) × Past m base (record { at = at; format = format; instr = instr })
    (place_before c (record { at = at; format = format; instr = instr } ∷ earlier))
    (scale_before c (record { at = at; format = format; instr = instr } ∷ earlier)) s t
item_step m c earlier at format instr base s same e k pc place scale =
    grind (
      arith,
      (places format s.pc),
      (next_there m s format instr (ap (cell_at (word_at m)) pc ∙ e)),
      (cell_at (word_at m)),
      (word_at m),
      (word_count format),
      (place_past (effect_of c.machine instr (scale_before c earlier) (callee c earlier instr)) (place_before c earlier)),
      (scale_before c earlier),
      (place_before c earlier),
      shift,
      displacement,
      place_moved_by,
      fits_moved,
      places,
    )

pub one_item : OneItem
one_item m c first earlier i base s mem same lead e kind pc place scale = grind (arith, item_step, stands)
