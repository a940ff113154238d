-- The list that is made for a frame is that of the kept entries that are marked.
use Rattle.std.specs.Prelude.{◌≡◌, ℕ, zero, List, [], ◌∷◌, Option, Some, None, Contains, refl}
use Rattle.std.proofs.Common.{inl, inr}
use Rattle.dvg_make.proofs.Common.{arith, sym, ap, subst, ◌∙◌, ⊎_elim, Machine, rom_word, frame_word, Entry, Key, Item, Shape, Frame, LeadsTo, Holds, cell_at, target, callee_at, scale_before, known_before, known_past, keyed_context, shape_context, frame_context, seen_at, HasEntry, MadeEntry, AllFine, Extends, IsLeast, Known, AllKeyed, FrameAsksFor, HasCalls, Needs, IsStraight, entry_at}
use Rattle.dvg_make.specs.Frames.{IsKeyed}
use Rattle.dvg_make.proofs.Matching.{SameAt, Matched, Gathered, gathered_same, seen_matched, exact_named, found_listed}
use Rattle.dvg_make.proofs.Ends.{made_ends, ends_made}
use Rattle.dvg_make.proofs.Merging.{calls_shrink, only_listed}
use Rattle.dvg_items.proofs.Listed.{listed_at}
use Rattle.dvg_check.specs.Rules.{Good, GoodShape, ShapePlaceKeeps, ShapeKeeps, CellKeeps}
use Rattle.dvg_check.specs.declared.fault.Mode.TheVariants.{Exact}
use Rattle.dvg_check.specs.declared.fault.ShapeWhy.{ShapeWhy}
use Rattle.dvg_check.specs.declared.fault.ShapeWhy.TheVariants as shape
use Rattle.dvg_words.specs.Memory.{Rom}
use Rattle.dvg_words.specs.Values.{Window}
use Rattle.dvg_words.specs.declared.instruction.Cell.{Cell}
use Rattle.dvg_words.specs.declared.instruction.Cell.TheVariants.{Missing, Odd}
use Rattle.dvg_make.specs.Frames.{FrameMade}
use Rattle.dvg_kept.specs.Kept.{Kept, IsKept, AreMade}
use Rattle.dvg_kept.specs.Private.Marks.{AllAskedMarked, Asks, IsCounted, IsMarked, Marks, frame_start, picked, shape_start}
use Rattle.dvg_kept.specs.Private.Own.{HasOwn, AreOwn}
use Rattle.dvg_kept.proofs.Picking.{at_contains, at_picked, contains_at, picked_at, picked_each, picked_few, picked_len, picked_rising}

at_other : (list : List Entry) (f : Entry) (to : ℕ) (scale : Key) → f.addr ≡ to → f.key ≡ scale → entry_at list f.addr f.key ≡ Some f
    → entry_at list to scale ≡ Some f
at_other list f to scale a s h =
    subst (λ (x : ℕ). entry_at list x scale ≡ Some f) a (subst (λ (x : Key). entry_at list f.addr x ≡ Some f) s h)

-- the entry that both lists have, at a known target
had : (a b : List Entry) (o : Option ℕ) (to : ℕ) (scale : Key) → o ≡ Some to → SameAt a b o scale → HasEntry b to scale
had a b o to scale is same = let s : SameAt a b (Some to) scale = subst (λ (x : Option ℕ). SameAt a b x scale) is same in (s.0, s.2)

-- what is known along a frame's items by a list is known by each that has more
pub frame_same : (machine : Machine) (a b : List Entry) → Extends a b → (items : List Item) → AllKeyed machine a items
    → known_before (frame_context machine a) items ≡ known_before (frame_context machine b) items
frame_same machine a b ext [] h = refl
frame_same machine a b ext (i ∷ earlier) h =
    grind (
      arith,
      (frame_same machine a b ext earlier h.0),
      target,
      scale_before,
      frame_context,
      callee_at,
      known_before,
      known_past,
      entry_at,
      exact_named,
    )

abbrev pub KeepsAt : Window → Machine → List Entry → Entry → List Item → ℕ → ShapeWhy → Cell → Type 0
KeepsAt w machine list e earlier p why cell =
    CellKeeps shape.Unmapped shape.Odd (λ j. ShapeKeeps Exact w e (seen_at (shape_context machine list e) earlier j)) p cell why

module _ (rom : Rom) (list : List Entry) (are : AreMade rom list) (m : Marks) where
  abbrev own : List Entry
  own = picked m.marked list

  own_marked : (e : Entry) → Contains own e → IsMarked list m e
  own_marked e c = let p = at_contains own e c in picked_at m.marked list p.0 e p.1

  marked_own : (e : Entry) → IsMarked list m e → Contains own e
  marked_own e h = let p = at_picked m.marked list h.0 e h.1 h.2 in contains_at own p.0 e p.1

  listed : (e : Entry) → Contains own e → Contains list e
  listed e c = let h = own_marked e c in contains_at list h.0 e h.2

  found : (e : Entry) → Contains own e → entry_at own e.addr e.key ≡ Some e
  found e c = found_listed own e (picked_rising m.marked list are.certificate.rising) c

  extends : Extends own list
  extends addr key e h =
      let l = listed_at own addr key e h in
      at_other list e addr key l.addr_is l.key_is (found_listed list e are.certificate.rising (listed e l.listed))

  -- the shape of an entry all of whose calls are marked
  module _ (e : Entry) (c : Contains own e)
      (closed : AllAskedMarked (rom_word rom) list (record { kind = Shape; at = e.addr; scale = e.key }) m) where
    same_item : (earlier : List Item) (i : Item) → LeadsTo Shape (rom_word rom) e.addr earlier i.at
        → cell_at (rom_word rom) i.at ≡ Holds i.format i.instr → (o : Option ℕ) → target Shape i.instr ≡ o
        → SameAt list own o (scale_before (keyed_context rom.machine list e.key) earlier)
    same_item earlier i lead is None t = tt
    same_item earlier i lead is (Some to) t =
        let scale : Key = scale_before (keyed_context rom.machine list e.key) earlier in
        let f = closed to scale (record { earlier = earlier; item = i; leads = lead; stands = is; target_is = t; scale_is = refl }) in
        let l = listed_at list to scale f.0 f.1 in
        (f.0, f.1, at_other own f.0 to scale l.addr_is l.key_is (found f.0 (marked_own f.0 f.2)))

    matched : (items : List Item) (p : ℕ) → LeadsTo Shape (rom_word rom) e.addr items p → Matched rom.machine list own e.key items
    matched [] p lead = tt
    matched (i ∷ earlier) p lead = (matched earlier i.at lead.0, same_item earlier i lead.0 lead.1 (target Shape i.instr) refl)

    matched_with : (earlier : List Item) (i : Item) → LeadsTo Shape (rom_word rom) e.addr earlier i.at
        → cell_at (rom_word rom) i.at ≡ Holds i.format i.instr → Matched rom.machine list own e.key (i ∷ earlier)
    matched_with earlier i lead is = (matched earlier i.at lead, same_item earlier i lead is (target Shape i.instr) refl)

    scale_same : (items : List Item) (p : ℕ) → LeadsTo Shape (rom_word rom) e.addr items p
        → scale_before (keyed_context rom.machine list e.key) items ≡ scale_before (keyed_context rom.machine own e.key) items
    scale_same items p lead =
        ap (λ (x : Gathered). x.known.scale) (gathered_same rom.machine list own e.key items (matched items p lead))

    fine_over : (items : List Item) (p : ℕ) → LeadsTo Shape (rom_word rom) e.addr items p
        → AllFine (keyed_context rom.machine list e.key) items → AllFine (keyed_context rom.machine own e.key) items
    fine_over [] p lead h = tt
    fine_over (i ∷ earlier) p lead h = (
      fine_over earlier i.at lead.0 h.0,
      record {
        straight = subst IsStraight (seen_matched rom.machine list own e.key earlier i (matched (i ∷ earlier) p lead)) h.1.straight;
        keyed = λ to t. subst (λ (x : Key). HasEntry own to x) (scale_same earlier i.at lead.0)
            (had list own (target Shape i.instr) to _ t (matched (i ∷ earlier) p lead).1);
      },
    )

    module _ (w : Window) where
      place_keeps : (earlier : List Item) (p : ℕ) → LeadsTo Shape (rom_word rom) e.addr earlier p → (why : ShapeWhy)
          → ShapePlaceKeeps Exact w rom list e earlier p why → ShapePlaceKeeps Exact w rom own e earlier p why
      place_keeps earlier p lead why = by_cell (cell_at (rom_word rom) p) refl
        where
          by_cell : (cell : Cell) → cell_at (rom_word rom) p ≡ cell → KeepsAt w rom.machine list e earlier p why cell
              → KeepsAt w rom.machine own e earlier p why cell
          by_cell Missing is h = h
          by_cell Odd is h = h
          by_cell (Holds format i) is h =
              subst (λ v. ShapeKeeps Exact w e v why)
              (seen_matched rom.machine list own e.key earlier (record { at = p; format = format; instr = i })
              (matched_with earlier (record { at = p; format = format; instr = i }) lead is)) h

      pub good_shape : Good Exact w rom list → GoodShape Exact w rom own e
      good_shape good earlier p lead why = place_keeps earlier p lead why (good e (listed e c) earlier p lead why)

    pub made : MadeEntry rom own e
    made =
        let h = made_ends rom list e (are.each e (listed e c)) in
        let same = gathered_same rom.machine list own e.key (h.stops.i ∷ h.stops.items)
        (matched_with h.stops.items h.stops.i h.stops.leads h.stops.is) in
        ends_made rom own e (record {
          stops = h.stops;
          sums = record {
            known = ap (λ (x : Gathered). x.known) (sym same) ∙ h.sums.known;
            box =
                subst (λ (x : Gathered). IsLeast x.lit e.lit) same h.sums.box;
          };
          fine = (
            fine_over h.stops.items h.stops.i.at h.stops.leads h.fine.0,
            record {
              straight = subst IsStraight (seen_matched rom.machine list own e.key h.stops.items h.stops.i
                  (matched_with h.stops.items h.stops.i h.stops.leads h.stops.is)) h.fine.1.straight;
              keyed = λ to t. subst (λ (x : Key). HasEntry own to x) (scale_same h.stops.items h.stops.i.at h.stops.leads)
                  (had list own (target Shape h.stops.i.instr) to _ t (matched_with h.stops.items h.stops.i h.stops.leads h.stops.is).1);
            },
          );
        })

  -- what the frame calls, where all of that is marked
  module _ (words : List ℕ) (asked : AllAskedMarked (frame_word rom.machine words) list frame_start m) where
    keyed_item : (earlier : List Item) (i : Item) → AllKeyed rom.machine own earlier
        → LeadsTo Frame (frame_word rom.machine words) 0 earlier i.at
        → cell_at (frame_word rom.machine words) i.at ≡ Holds i.format i.instr → IsKeyed rom.machine own earlier i
    keyed_item earlier i keyed lead is to t =
        let scale : Key = scale_before (frame_context rom.machine own) earlier in
        let there = ap (λ (x : Known). x.scale) (frame_same rom.machine own list extends earlier keyed) in
        let f = asked to scale (record { earlier = earlier; item = i; leads = lead; stands = is; target_is = t; scale_is = sym there }) in
        let l = listed_at list to scale f.0 f.1 in
        (f.0, at_other own f.0 to scale l.addr_is l.key_is (found f.0 (marked_own f.0 f.2)))

    all_keyed : (items : List Item) (p : ℕ) → LeadsTo Frame (frame_word rom.machine words) 0 items p → AllKeyed rom.machine own items
    all_keyed [] p lead = tt
    all_keyed (i ∷ earlier) p lead = let rest = all_keyed earlier i.at lead.0 in (rest, keyed_item earlier i rest lead.0 lead.1)

    pub has_calls : HasCalls rom.machine words own
    has_calls to scale c =
        subst (λ (x : Key). HasEntry own to x) c.scale_is
        (keyed_item c.earlier c.item (all_keyed c.earlier c.item.at c.leads) c.leads c.stands to c.target_is)

-- the marked entries of a frame are its own list
module _ (rom : Rom) (list : List Entry) (are : AreMade rom list) (words : List ℕ) (m : Marks) (own_are : AreOwn rom words list m) where
  closed : (e : Entry) → IsMarked list m e → AllAskedMarked (rom_word rom) list (shape_start e) m
  closed e h =
      ⊎_elim (λ w. let c : Contains [] w.0 = subst (λ (x : List ℕ). Contains x w.0) own_are.all w.1 in absurd (omega (arith, c.1))) (λ a. a)
      (own_are.marking.closed e h)

  each : (e : Entry) → Contains (own rom list are m) e → MadeEntry rom (own rom list are m) e
  each e c = made rom list are m e c (closed e (own_marked rom list are m e c))

  calls : HasCalls rom.machine words (own rom list are m)
  calls = has_calls rom list are m words own_are.marking.frame

  -- an entry that the shape of another one calls is needed
  needs : (e f : Entry) → IsMarked list m e → Contains (own rom list are m) f
      → Asks (shape_context rom.machine list e) (rom_word rom) e.addr f.addr f.key → Needs rom (own rom list are m) e f
  needs e f h c a =
      let here = marked_own rom list are m e h in
      let scale : scale_before (shape_context rom.machine (own rom list are m) e) a.earlier ≡ f.key =
      sym (scale_same rom list are m e here (closed e h) a.earlier a.item.at a.leads) ∙ a.scale_is in
      record {
        earlier = a.earlier;
        item = a.item;
        leads = a.leads;
        stands = a.stands;
        callee_is = ap (λ (o : Option ℕ). callee_at (own rom list are m) o
            (scale_before (shape_context rom.machine (own rom list are m) e) a.earlier)) a.target_is
            ∙ ap (λ (x : Key). callee_at (own rom list are m) (Some f.addr) x) scale
            ∙ exact_named (own rom list are m) f.addr f.key f (found rom list are m f c);
      }

  pub made_list : FrameMade rom words (own rom list are m)
  made_list =
      record {
        certificate =
            record {
              map_is = are.certificate.map_is;
              each = picked_each _ m.marked list are.certificate.each;
              rising =
                  picked_rising m.marked list are.certificate.rising;
              few = omega (arith, picked_few m.marked list, are.certificate.few);
            };
        each = each;
        rooted = λ addr key a. ⊎_elim (λ c. absurd (omega (arith, c.1)))
            (λ f. calls addr key (subst (λ (x : List ℕ). FrameAsksFor rom.machine x (own rom list are m) addr key)
            (sym (only_listed words f.0 f.1)) f.2)) a;
        needed = λ f c. ⊎_elim
            (λ a. inl (inr (
              words,
              (zero, omega arith, refl),
              calls_shrink rom.machine words (own rom list are m) list (extends rom list are m) calls f.addr f.key
                  (record {
                    earlier = a.earlier;
                    item = a.item;
                    leads = a.leads;
                    stands = a.stands;
                    target_is = a.target_is;
                    scale_is =
                        a.scale_is;
                  }),
            )))
            (λ e. inr (e.0, marked_own rom list are m e.0 e.1, needs e.0 f e.1 c e.2))
            (own_are.marking.called f (own_marked rom list are m f c));
      }

pub own_list : (k : Kept) → IsKept k → (words : List ℕ) (m : Marks) → AreOwn k.rom words k.list m → IsCounted m → HasOwn k words m.count
own_list k kept words m are counted =
    record {
      list = own k.rom k.list kept.are m;
      made = made_list k.rom k.list kept.are words m are;
      good = λ e c. good_shape k.rom k.list kept.are m e c
          (closed k.rom k.list kept.are words m are e (own_marked k.rom k.list kept.are m e c)) k.window kept.good;
      extends = extends k.rom k.list kept.are m;
      count = picked_len m.marked k.list are.marking.len ∙ sym counted.count_is;
    }
