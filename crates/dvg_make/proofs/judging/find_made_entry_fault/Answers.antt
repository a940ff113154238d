-- Where a made shape ends at a relative place, none of its items stands at an absolute one.
use Rattle.dvg_make.proofs.Common.{ℕ, List, [], ◌∷◌, sym, ap, subst, Rom, rom_word, Window, End, Entry, Context, shape_context, place_past, place_before, LitInWindow, Item, Shape, Known, LitExtent, GoodShape, Exact, MadeEntry, arith, AtEachOf, AtEveryPlace, everywhere, IsRelative}
use Rattle.dvg_make.proofs.Ends.{made_ends, good_entry}
use Rattle.dvg_make.proofs.judging.find_made_entry_fault.Goals as goal

-- at a relative place nothing is lit at an absolute one
relative_in_window : (w : Window) (lit : LitExtent) (place : End) → IsRelative place → LitInWindow w lit place
relative_in_window w lit place h = grind (arith)

module _ (rom : Rom) (list : List Entry) (e : Entry) (made : MadeEntry rom list e) (ends : IsRelative e.stop) where
  abbrev c : Context
  c = shape_context rom.machine list e

  abbrev IsHere : List Item → ℕ → Type 0
  IsHere earlier p = IsRelative (place_before c earlier)

  each_of : (items : List Item) → IsRelative (place_before c items) → AtEachOf IsHere items
  each_of [] h = tt
  each_of (i ∷ items) h =
      let before : IsRelative (place_before c items) = grind (arith, h, place_past) in
      (each_of items before, before)

  everywhere_relative : AtEveryPlace Shape (rom_word rom) e.addr IsHere
  everywhere_relative =
      let last = made_ends rom list e made in
      everywhere Shape (rom_word rom) e.addr IsHere last.stops.items last.stops.i last.stops.leads last.stops.is last.stops.last
      (each_of (last.stops.i ∷ last.stops.items) (subst IsRelative (sym (ap (λ (k : Known). k.place) last.sums.known)) ends))

-- a made entry that ends at a relative place is good in every window
relative_good : (rom : Rom) (list : List Entry) (w : Window) (e : Entry) → MadeEntry rom list e → IsRelative e.stop
    → GoodShape Exact w rom list e
relative_good rom list w e made ends =
    good_entry rom list w e made (λ earlier i lead is. relative_in_window w _ _
    (everywhere_relative rom list e made ends earlier i.at lead))

pub returns-then-is_relative-clause-ok : goal.returns-then-is_relative-clause-ok
returns-then-is_relative-clause-ok c =
    relative_good c.args.rom.now c.args.entries.now c.args.window.now c.args.entry.now c.requires.made
    (c.is_relative.ensures.0 c.if-is_relative.true)
