-- A shape so far and the tail behind it are a made entry.
use Rattle.dvg_make.proofs.Common.{Machine, ◌≡◌, ℕ, ◌+◌, ◌-◌, List, [], ◌∷◌, ◌++◌, Option, Some, sym, ap, ◌∙◌, subst, arith, ⊎_elim, IfSome, ints, Rom, rom_word, Point, Jmpl, IsKey, entry_at, End, Rel, Abs, Lost, Entry, Key, LitBox, LeadsTo, Context, place_before, known_before, InBox, IsInside, box_extent, relative_corners, step_past, seen_at, seen_with, extent, Last, Item, Shape, Known, LitExtent, Between, Seen, all_append, listed_at, PartialEntry, lit_points, HoldsAll, IsLeast, IsDone, keyed_context, entry_of, AllFine, IsPartial, Passes, Extends, AreTails, IsFinished, rules, Contains-append_cases, ℤ, neg_ℤ, Short, PlaceKnown, all_left, all_right, seen_by, moved, known_over, place_over, IsFine, KnowsAt, shift, append_assoc, ◌↔◌, all_map, in_wider, IsTail, EndsBy, EndsByOne}
use Rattle.dvg_check.proofs.TailLaws.{seen_over, seen_by_over, over_none}
use Rattle.std.specs.Prelude.{map}
use Rattle.dvg_items.proofs.Points.{shift_shift}
use Rattle.dvg_make.proofs.Ends.{made_ends}
use Rattle.dvg_make.proofs.Onward.{finished}
use Rattle.dvg_make.proofs.Merging.{made_grows, only_listed}
use Rattle.dvg_make.proofs.Knowing.{IsOrdered}

-- ---- what is lit in a tail, seen from where the tail stands

-- points, seen from a place, are these from where it is; none, if the place is not relative
abbrev over : End → List Point → List Point
over (Rel u v) ps = map (shift (record { x = u; y = v })) ps
over place ps = []

over_next : (ext : LitExtent) (place second : End) (ps : List Point)
    → relative_corners ext (place_over place second) ++ over place ps ≡ over place (relative_corners ext second ++ ps)
over_next (Between a b) (Rel u v) (Rel x y) ps =
    λ i. shift_shift (record { x = u; y = v }) (record { x = x; y = y }) a i ∷ shift_shift (record { x = u; y = v })
    (record { x = x; y = y }) b i ∷ over (Rel u v) ps
over_next ext place second ps = grind (arith)

-- a box, seen from a place
abbrev seen_from : ℤ → ℤ → LitBox → LitBox
seen_from u v box = moved box (record { x = neg_ℤ u; y = neg_ℤ v })

seen : (box : LitBox) (u v : ℤ) (p : Point) → InBox box (shift (record { x = u; y = v }) p) ↔ InBox (seen_from u v box) p
seen box u v p = (λ h. grind (arith, ints, h), λ h. grind (arith, ints, h))

holds_over : (box : LitBox) (u v : ℤ) (ps : List Point) → HoldsAll box (over (Rel u v) ps) ↔ HoldsAll (seen_from u v box) ps
holds_over box u v [] = (λ h. h, λ h. h)
holds_over box u v (p ∷ ps) = let r = holds_over box u v ps in let s = seen box u v p in (λ h. (s.0 h.0, r.0 h.1), λ h. (s.1 h.0, r.1 h.1))

-- a box has the corners of one that, seen from the place, is part of it
corners_over : (lit box : LitBox) (u v : ℤ) → IsOrdered lit
    → HoldsAll box (relative_corners (box_extent lit) (Rel u v)) ↔ IsInside lit (seen_from u v box)
corners_over lit box u v o = (λ h. grind (arith, ints, h), λ h. grind (arith, ints, h))

-- so a least box is one of the tail's points too, if it is one of the corners of the tail's box
least_over : (lit whole : LitBox) (place : End) (ps qs : List Point) → IsOrdered lit → IsLeast ps lit
    → IsLeast (relative_corners (box_extent lit) place ++ qs) whole → IsLeast (over place ps ++ qs) whole
least_over lit whole (Abs u v) ps qs o tail joined = joined
least_over lit whole Lost ps qs o tail joined = joined
least_over lit whole (Rel u v) ps qs o tail joined =
    let corners = relative_corners (box_extent lit) (Rel u v) in
    let inside = (corners_over lit whole u v o).0 (all_left (InBox whole) corners qs joined.holds) in
    record {
      holds = all_append (InBox whole) (over (Rel u v) ps) qs
          ((holds_over whole u v ps).1 (all_map (InBox lit) (InBox (seen_from u v whole)) ps
          (λ q. in_wider lit (seen_from u v whole) q inside) tail.holds)) (all_right (InBox whole) corners qs joined.holds);
      least = λ other h. joined.least other
          (all_append (InBox other) corners qs
          ((corners_over lit other u v o).1
          (tail.least (seen_from u v other) ((holds_over other u v ps).0 (all_left (InBox other) (over (Rel u v) ps) qs h))))
          (all_right (InBox other) (over (Rel u v) ps) qs h));
    }

-- ---- the items before a tail, and those of the tail

module _ (rom : Rom) (list : List Entry) (key : Key) (before : List Item) (t : Entry) (here : Known)
    (here_is : here ≡ known_before (keyed_context rom.machine list key) before) (scale : here.scale ≡ t.key) where
  abbrev c : Context
  c = keyed_context rom.machine list key

  abbrev behind : Context
  behind = keyed_context rom.machine list t.key

  seen_on : (rest : List Item) (i : Item) → known_before c (rest ++ before) ≡ known_over here (known_before behind rest)
      → seen_at c (rest ++ before) i ≡ seen_over here (seen_at behind rest i)
  seen_on rest i knows =
      ap (λ (k : Known). seen_by rom.machine list Shape k i) knows ∙ seen_by_over rom.machine list here (known_before behind rest) i

  knows_on : (rest : List Item) → known_before c (rest ++ before) ≡ known_over here (known_before behind rest)
  knows_on [] = sym here_is ∙ over_none here t.key scale
  knows_on (i ∷ rest) = ap (λ (v : Seen). v.after) (seen_on rest i (knows_on rest))

  leads_through : (addr p : ℕ) (rest : List Item) → LeadsTo Shape (rom_word rom) addr before t.addr
      → LeadsTo Shape (rom_word rom) t.addr rest p → LeadsTo Shape (rom_word rom) addr (rest ++ before) p
  leads_through addr p [] l k = subst (LeadsTo Shape (rom_word rom) addr before) (sym k) l
  leads_through addr p (i ∷ rest) l k = (leads_through addr i.at rest l k.0, k.1, k.2)

  fine_through : PlaceKnown (box_extent t.lit) here.place → (rest : List Item) → AllFine c before → AllFine behind rest
      → HoldsAll t.lit (lit_points behind rest) → AllFine c (rest ++ before)
  fine_through known [] f g holds = f
  fine_through known (i ∷ rest) f g holds =
      let corners = relative_corners (extent behind rest i.instr) (place_before behind rest) in
      let first = all_left (InBox t.lit) corners (lit_points behind rest) holds in
      let fine : IsFine c (rest ++ before) i = grind (arith, seen_over, seen_at, extent, place_before, seen_on, knows_on) in
      (fine_through known rest f g.0 (all_right (InBox t.lit) corners (lit_points behind rest) holds), fine)

  lit_through : (rest : List Item) → lit_points c (rest ++ before) ≡ over here.place (lit_points behind rest) ++ lit_points c before
  lit_through [] = grind (arith)
  lit_through (i ∷ rest) =
      ap (λ (v : Seen). relative_corners v.extent v.place ++ lit_points c (rest ++ before)) (seen_on rest i (knows_on rest))
      ∙ ap (λ ps. relative_corners (extent behind rest i.instr) (place_over here.place (place_before behind rest)) ++ ps) (lit_through rest)
      ∙ sym (append_assoc (relative_corners (extent behind rest i.instr) (place_over here.place (place_before behind rest)))
      (over here.place (lit_points behind rest)) (lit_points c before))
      ∙ ap (λ ps. ps ++ lit_points c before)
      (over_next (extent behind rest i.instr) here.place (place_before behind rest) (lit_points behind rest))

-- ---- the entry

pub joined : (rom : Rom) (list : List Entry) → IsDone rom list → (w : PartialEntry) → IsPartial rom list w → (t : Entry)
    → IsTail rom list t → t.addr ≡ w.cursor.at → t.key ≡ w.cursor.known.scale → (e : Entry) → EndsBy w t e → IsFinished rom list w e
joined rom list done w h t tail at key e ends =
    let m = made_ends rom list t tail.made in
    let c = keyed_context rom.machine list w.key in
    let here = w.cursor.known in
    let rest = m.stops.i ∷ m.stops.items in
    let is = h.knows.known_is in
    let points = lit_points c h.items in
    let knows : KnowsAt c (rest ++ h.items) ends.known ends.lit = record {
      known_is = ends.known_is ∙ ap (known_over here) (sym m.sums.known) ∙ sym (knows_on rom list w.key h.items t here is (sym key) rest);
      least = subst (λ ps. IsLeast ps ends.lit) (sym (lit_through rom list w.key h.items t here is (sym key) rest))
          (least_over t.lit ends.lit here.place (lit_points (keyed_context rom.machine list t.key) rest) points
          (grind (arith, tail.entry.lit)) m.sums.box (ends.grows points h.knows.least));
      fine = fine_through rom list w.key h.items t here is (sym key) ends.place rest h.knows.fine m.fine m.sums.box.holds;
    } in
    let leads = leads_through rom list w.key h.items t here is (sym key) w.addr m.stops.i.at m.stops.items
    (subst (LeadsTo Shape (rom_word rom) w.addr h.items) (sym at) h.leads) m.stops.leads in
    subst (IsFinished rom list w) (sym ends.entry_is)
    (finished rom list done w (m.stops.items ++ h.items) m.stops.i ends.known ends.lit leads m.stops.is m.stops.last knows ends.words
    (omega (arith, ap (λ (k : Known). k.depth) ends.known_is, h.shallow, tail.entry.depth)) h.keyed
    (subst (λ (k : Known). IsKey k.scale) (sym ends.known_is) tail.entry.scale))

-- by one of the tails that are kept
pub joined_one : (rom : Rom) (list tails : List Entry) → IsDone rom list → AreTails rom list tails → (w : PartialEntry)
    → IsPartial rom list w → (e : Entry) → EndsByOne w tails e → IsFinished rom list w e
joined_one rom list tails done are w h e ends =
    search (rules, (listed_at tails w.cursor.at w.cursor.known.scale ends.tail ends.there), joined)

-- past a tail jump the same is known as past the tail, but for the word of the jump
pub ends_by : (machine : Machine) (w : PartialEntry) (t : Entry) (to : ℕ) (lit : LitBox) (last : Known) (words : ℕ) (e : Entry)
    → Passes (seen_with machine (Some t) w.cursor.known (record { at = w.cursor.at; format = Short; instr = Jmpl to })) w.lit lit
    → Last last ≡ step_past Shape (seen_with machine (Some t) w.cursor.known (record { at = w.cursor.at; format = Short; instr = Jmpl to }))
    → words ≡ last.words - 1 → e ≡ entry_of w.addr w.key (record last { words = words }) lit → EndsBy w t e
ends_by machine w t to lit last words e p goes less is =
    let after : last ≡ (seen_with machine (Some t) w.cursor.known (record { at = w.cursor.at; format = Short; instr = Jmpl to })).after =
    cc goes in
    let count : words ≡ t.words + w.cursor.known.words = omega (arith, less, ap (λ (k : Known). k.words) after) in
    search (rules, lit, is)

pub ends_by_one : (w : PartialEntry) (tails : List Entry) (t : Entry) (o : Option Entry)
    → entry_at tails w.cursor.at w.cursor.known.scale ≡ Some t → IfSome o (EndsBy w t) → IfSome o (EndsByOne w tails)
ends_by_one w tails t o there h = grind (arith)

-- ---- tails that are kept

-- they are tails by each list that has more
pub tails_grow : (rom : Rom) (a b tails : List Entry) → Extends a b → AreTails rom a tails → AreTails rom b tails
tails_grow rom a b tails ext h t c = record { entry = (h t c).entry; made = made_grows rom a b t ext (h t c).made }

-- what is finished is a tail
pub tail_kept : (rom : Rom) (done tails new : List Entry) (w : PartialEntry) (e : Entry) → AreTails rom done tails
    → IsFinished rom done w e → new ≡ tails ++ e ∷ [] → AreTails rom done new
tail_kept rom done tails new w e h f is =
    subst (AreTails rom done) (sym is)
    (λ t c. ⊎_elim (h t) (λ l. subst (IsTail rom done) (only_listed e t l) (record { entry = f.entry; made = f.made }))
    (Contains-append_cases tails (e ∷ []) t c))
