-- What a change does to all that a hull has.
unfoldable use Rattle.dvg_check.proofs.Common.{cell_at, instruction_of, displacement}
use Rattle.dvg_recipe.proofs.Common.{nat_tests, ◌≡◌, ◌≤◌, ◌+◌, ℕ, zero, suc, Option, Some, None, arith, refl, sym, ap, subst, ◌∙◌}
use Rattle.dvg_check.proofs.Common.{ints, ℤ, Key, At, Any, DrawFields, origin, InWindow, shift, Window, Point, Entry, End, Rel, Abs, Known, Item, Effect, LitExtent, Between, Nothing, Anywhere, PlaceKnown, ScaleKnown, LitInWindow, place_past, Instr, Holds, Format, Short, Long, Source, nat_le, cell_of_format}
use Rattle.dvg_cert.specs.declared.entry.End.TheVariants.{Lost as LostEnd}
use Rattle.dvg_words.specs.declared.machine.Machine.TheVariants.{Board}
use Rattle.dvg_items.specs.declared.known.Effect.TheVariants.{Sets, Loses, Moves}
use Rattle.dvg_items.specs.Seen.{seen_with}
use Rattle.dvg_items.specs.Known.{known_past, effect_of, draw_effect}
use Rattle.dvg_items.specs.Lit.{extent_of, draw_extent}
use Rattle.std.specs.Prelude.{max}
use Rattle.dvg_items.proofs.Common.{clamps}
use Rattle.dvg_items.specs.Bounds.{ITEM_REACH}
use Rattle.dvg_items.proofs.Reached.{reached_more, reached_shift}
use Rattle.dvg_cert.specs.declared.limits.TheConstants.{MOST_WORDS}
use Rattle.dvg_recipe.specs.Private.Hulls.{Rectangle, Places, Lost, Within, Hull, Motion, To, Away, By, Light, Dark, Shown, Unbounded, Change, IsInRectangle, IsAmong, IsNotOutside, IsInHull, IsMotion, IsLight, IsChange, moved, places_past, hull_past, around, common, part_in, places_in, joined_places, joined, IsInto, IsNearInto, IsNearRectangle, AreNearPlaces, IsNearMotion, IsSoundHull, IsSoundChange, HasFormat, IsShown, LightsIn, HullKeeps, KeepsOthers}

-- ---- rectangles

shift_in : (r by : Rectangle) (p d : Point) → IsInRectangle r p → IsInRectangle by d → IsInRectangle (moved r by) (shift p d)
shift_in r by p d h k =
    record {
      left = omega (arith, ints, h.left, k.left);
      right = omega (arith, ints, h.right, k.right);
      bottom =
          omega (arith, ints, h.bottom, k.bottom);
      top = omega (arith, ints, h.top, k.top);
    }

in_window : (w : Window) (r : Rectangle) (p : Point) → IsShown w r → IsInRectangle r p → InWindow w p
in_window w r p h k =
    record {
      left = omega (arith, ints, h.0.left, k.left);
      right = omega (arith, ints, h.1.right, k.right);
      bottom =
          omega (arith, ints, h.0.bottom, k.bottom);
      top = omega (arith, ints, h.1.top, k.top);
    }

-- ---- places

places_on : (m : Motion) (places : Places) (e : Effect) (place : End) → IsAmong places place → IsMotion m e
    → IsAmong (places_past m places) (place_past e place)
places_on (To r) places (Sets p) place h k = k
places_on (To r) places Loses place h k = absurd k
places_on (To r) places (Moves d) place h k = absurd k
places_on Away places e place h k = tt
places_on (By d) Lost e place h k = tt
places_on (By d) (Within r) (Sets p) place h k = absurd k
places_on (By d) (Within r) Loses place h k = absurd k
places_on (By d) (Within r) (Moves v) (Rel x y) h k = absurd h
places_on (By d) (Within r) (Moves v) (Abs x y) h k = shift_in r d (record { x = x; y = y }) v h k
places_on (By d) (Within r) (Moves v) LostEnd h k = absurd h

-- ---- into a rectangle

common_in : (r s : Rectangle) (p : Point) → IsInRectangle r p → IsInRectangle s p → IsInRectangle (common r s) p
common_in r s p h k =
    record {
      left = omega (arith, ints, clamps, h.left, k.left);
      right = omega (arith, ints, clamps, h.right, k.right);
      bottom =
          omega (arith, ints, clamps, h.bottom, k.bottom);
      top = omega (arith, ints, clamps, h.top, k.top);
    }

-- where the item leads, whatever it calls: a draw calls nothing
into_place : (r : Rectangle) (named : Option Entry) (k : Known) (i : Item) → IsInto (Some r) k i
    → IsNotOutside r (known_past Board i named k).place
into_place r named k i (d, is, there) =
    subst (λ (e : Effect). IsNotOutside r (place_past e k.place))
    (ap (λ (j : Instr). effect_of Board j k.scale None) is ∙ sym (ap (λ (j : Instr). effect_of Board j k.scale named) is)) there

into_on : (into : Option Rectangle) (places : Places) (named : Option Entry) (k : Known) (i : Item)
    → IsAmong places (known_past Board i named k).place → IsInto into k i
    → IsAmong (places_in into places) (known_past Board i named k).place
into_on None places named k i h t = h
into_on (Some r) Lost named k i h t = tt
into_on (Some r) (Within s) named k i h t = both (known_past Board i named k).place (into_place r named k i t) h
  where
    both : (place : End) → IsNotOutside r place → IsAmong (Within s) place → IsAmong (Within (common r s)) place
    both (Rel x y) a b = absurd b
    both (Abs x y) a b = common_in r s (record { x = x; y = y }) a b
    both LostEnd a b = absurd b

-- a lit draw ends where it leads
draw_ends : (r : Rectangle) (d : DrawFields) (bright : ℕ) (scale : Key) (x y : ℤ) (a b : Point)
    → IsNotOutside r (place_past (draw_effect Board d scale) (Abs x y)) → draw_extent Board bright d scale ≡ Between a b
    → IsInRectangle r (shift (record { x = x; y = y }) b)
draw_ends r d zero scale x y a b there is = absurd (no_light scale is)
  where
    no_light : (s : Key) → draw_extent Board zero d s ≡ Between a b → ⊥
    no_light (At g) e = grind (arith, e)
    no_light Any e = grind (arith, e)
draw_ends r d (suc n) (At g) x y a b there is = subst (λ (q : Point). IsInRectangle r (shift (record { x = x; y = y }) q)) (second is) there
  where
    second : Between origin (displacement Board d g) ≡ Between a b → displacement Board d g ≡ b
    second e = grind (arith, e)
draw_ends r d (suc n) Any x y a b there is = absurd (nowhere is)
  where
    nowhere : Anywhere ≡ Between a b → ⊥
    nowhere e = grind (arith, e)

-- what is lit into a rectangle ends there
ends_in : (r : Rectangle) (named : Option Entry) (k : Known) (i : Item) (x y : ℤ) (a b : Point) → IsInto (Some r) k i → k.place ≡ Abs x y
    → extent_of Board i.instr k.scale named ≡ Between a b → IsInRectangle r (shift (record { x = x; y = y }) b)
ends_in r named k i x y a b (d, is, there) at lit =
    draw_ends r d d.bright k.scale x y a b
    (subst (λ (p : End). IsNotOutside r (place_past (draw_effect Board d k.scale) p)) at
    (subst (λ (e : Effect). IsNotOutside r (place_past e k.place)) (ap (λ (j : Instr). effect_of Board j k.scale None) is) there))
    (sym (ap (λ (j : Instr). extent_of Board j k.scale named) is) ∙ lit)

-- ---- what is lit

record IsLit (w : Window) (extent : LitExtent) (place : End) : Type 0 where
  known : PlaceKnown extent place
  scale : ScaleKnown extent
  shown : LitInWindow w extent place

-- where what is lit ends, if it is a draw into a rectangle
abbrev EndsIn : Option Rectangle → LitExtent → End → Type 0
EndsIn into extent place =
    (r : Rectangle) (x y : ℤ) (a b : Point) → into ≡ Some r → place ≡ Abs x y → extent ≡ Between a b
    → IsInRectangle r (shift (record { x = x; y = y }) b)

part_has : (into : Option Rectangle) (s : Rectangle) (p : Point) → ((r : Rectangle) → into ≡ Some r → IsInRectangle r p)
    → IsInRectangle s p → IsInRectangle (part_in into s) p
part_has None s p h k = k
part_has (Some r) s p h k = common_in r s p (h r refl) k

lit_on : (w : Window) (into : Option Rectangle) (places : Places) (light : Light) (extent : LitExtent) (place : End)
    → EndsIn into extent place → IsAmong places place → IsLight light extent → LightsIn w into places light → IsLit w extent place
lit_on w into places light Nothing (Rel x y) e h k l = record { known = tt; scale = tt; shown = tt }
lit_on w into places light Nothing (Abs x y) e h k l = record { known = tt; scale = tt; shown = tt }
lit_on w into places light Nothing LostEnd e h k l = record { known = tt; scale = tt; shown = tt }
lit_on w into places Dark (Between a b) place e h k l = absurd k
lit_on w into places Dark Anywhere place e h k l = absurd k
lit_on w into Lost (Shown from to) extent place e h k l = absurd l
lit_on w into places (Shown from to) Anywhere place e h k l = absurd k
lit_on w into (Within r) (Shown from to) (Between a b) (Rel x y) e h k l = absurd h
lit_on w into (Within r) (Shown from to) (Between a b) (Abs x y) e h k l =
    let p : Point = record { x = x; y = y } in
    let there = part_has into (moved r to) (shift p b) (λ t is. e t x y a b is refl refl) (shift_in r to p b h k.1) in
    record {
      known = grind (arith);
      scale = tt;
      shown = (
        in_window w (moved r from) (shift p a) l.0 (shift_in r from p a h k.0),
        (in_window w (part_in into (moved r to)) (shift p b) l.1 there, tt),
      );
    }
lit_on w into (Within r) (Shown from to) (Between a b) LostEnd e h k l = absurd h
lit_on w into places Unbounded (Between a b) place e h k l = absurd l
lit_on w into places Unbounded Anywhere place e h k l = absurd l

ends_of : (into : Option Rectangle) (named : Option Entry) (k : Known) (i : Item) → IsInto into k i
    → EndsIn into (extent_of Board i.instr k.scale named) k.place
ends_of into named k i t r x y a b is at lit = ends_in r named k i x y a b (subst (λ (o : Option Rectangle). IsInto o k i) is t) at lit

-- ---- hulls

module _ (w : Window) (budget : ℕ) (h : Hull) (c : Change) (named : Option Entry) (k : Known) (i : Item) (inside : IsInHull h k)
    (is : IsChange named k.scale c i) (into : IsInto c.into k i) where
  pub keeps_others : HullKeeps w budget h c → KeepsOthers w budget (seen_with Board named k i)
  keeps_others keeps =
      let lit = lit_on w c.into h.places c.light _ k.place (ends_of c.into named k i into) inside.place is.light keeps.lights in
      record {
        place = lit.known;
        scale = lit.scale;
        shown = lit.shown;
        named = is.named_one keeps.named;
        few =
            omega (arith, inside.words, is.words, keeps.few);
      }

  pub inside_past : IsInHull (hull_past c h) (known_past Board i named k)
  inside_past =
      record {
        scale = is.scale_after;
        place =
            into_on c.into (places_past c.motion h.places) named k i (places_on c.motion h.places _ k.place inside.place is.motion) into;
        words = omega (arith, inside.words, is.words);
        depth = omega (arith, inside.depth, is.depth);
      }

-- ---- formats

pub format_there : (get : Source) (p : ℕ) (format : Format) (i : Instr) → cell_at get p ≡ Holds format i → HasFormat format i
unfolding cell_at instruction_of
format_there get p Short i e = grind (arith, nat_le, nat_tests, cell_of_format)
format_there get p Long i e = grind (arith, nat_le, nat_tests, cell_of_format)

-- ---- two hulls in one

around_one : (r s : Rectangle) (p : Point) → IsInRectangle r p → IsInRectangle (around r s) p
around_one r s p h =
    record {
      left = omega (arith, ints, clamps, h.left);
      right = omega (arith, ints, clamps, h.right);
      bottom =
          omega (arith, ints, clamps, h.bottom);
      top = omega (arith, ints, clamps, h.top);
    }

around_other : (r s : Rectangle) (p : Point) → IsInRectangle s p → IsInRectangle (around r s) p
around_other r s p h =
    record {
      left = omega (arith, ints, clamps, h.left);
      right = omega (arith, ints, clamps, h.right);
      bottom =
          omega (arith, ints, clamps, h.bottom);
      top = omega (arith, ints, clamps, h.top);
    }

places_one : (a b : Places) (place : End) → IsAmong a place → IsAmong (joined_places a b) place
places_one Lost b place h = tt
places_one (Within r) Lost place h = tt
places_one (Within r) (Within s) (Rel x y) h = absurd h
places_one (Within r) (Within s) (Abs x y) h = around_one r s (record { x = x; y = y }) h
places_one (Within r) (Within s) LostEnd h = absurd h

places_other : (a b : Places) (place : End) → IsAmong b place → IsAmong (joined_places a b) place
places_other Lost b place h = tt
places_other (Within r) Lost place h = tt
places_other (Within r) (Within s) (Rel x y) h = absurd h
places_other (Within r) (Within s) (Abs x y) h = around_other r s (record { x = x; y = y }) h
places_other (Within r) (Within s) LostEnd h = absurd h

pub hull_one : (a b : Hull) (k : Known) → IsInHull a k → IsInHull (joined a b) k
hull_one a b k h =
    record {
      scale = h.scale;
      place = places_one a.places b.places k.place h.place;
      words = omega (arith, h.words);
      depth =
          omega (arith, h.depth);
    }

pub hull_other : (a b : Hull) (k : Known) → a.scale ≡ b.scale → IsInHull b k → IsInHull (joined a b) k
hull_other a b k same h =
    record {
      scale = h.scale ∙ sym same;
      place = places_other a.places b.places k.place h.place;
      words = omega (arith, h.words);
      depth =
          omega (arith, h.depth);
    }

-- ---- limits

more_near : (m n : ℕ) (r : Rectangle) → m ≤ n → IsNearRectangle m r → IsNearRectangle n r
more_near m n r le h = (reached_more ITEM_REACH m n r.low le h.0, reached_more ITEM_REACH m n r.high le h.1)

pub more_near_places : (m n : ℕ) (places : Places) → m ≤ n → AreNearPlaces m places → AreNearPlaces n places
more_near_places m n Lost le h = tt
more_near_places m n (Within r) le h = more_near m n r le h

around_near : (n : ℕ) (r s : Rectangle) → IsNearRectangle n r → IsNearRectangle n s → IsNearRectangle n (around r s)
around_near n r s h k = (
  record {
    left = omega (arith, ints, clamps, h.0.left, k.0.left);
    right = omega (arith, ints, clamps, h.0.right, k.0.right);
    down =
        omega (arith, ints, clamps, h.0.down, k.0.down);
    up = omega (arith, ints, clamps, h.0.up, k.0.up);
  },
  record {
    left = omega (arith, ints, clamps, h.1.left, k.1.left);
    right = omega (arith, ints, clamps, h.1.right, k.1.right);
    down =
        omega (arith, ints, clamps, h.1.down, k.1.down);
    up = omega (arith, ints, clamps, h.1.up, k.1.up);
  },
)

places_near : (n : ℕ) (a b : Places) → AreNearPlaces n a → AreNearPlaces n b → AreNearPlaces n (joined_places a b)
places_near n Lost b h k = tt
places_near n (Within r) Lost h k = tt
places_near n (Within r) (Within s) h k = around_near n r s h k

pub joined_sound : (a b : Hull) → IsSoundHull a → IsSoundHull b → IsSoundHull (joined a b)
joined_sound a b h k =
    let n : ℕ = max a.words b.words in
    record {
      scale = h.scale;
      places = places_near n a.places b.places (more_near_places a.words n a.places (omega arith) h.places)
          (more_near_places b.words n b.places (omega arith) k.places);
      words = omega (arith, h.words, k.words);
      depth = omega (arith, h.depth, k.depth);
    }

moved_near : (m n all : ℕ) (r by : Rectangle) → m + n ≤ all → IsNearRectangle m r → IsNearRectangle n by → IsNearRectangle all (moved r by)
moved_near m n all r by le h k =
    more_near (m + n) all (moved r by) le
    (reached_shift ITEM_REACH m n (m + n) r.low by.low refl h.0 k.0, reached_shift ITEM_REACH m n (m + n) r.high by.high refl h.1 k.1)

past_near : (m all : ℕ) (motion : Motion) (places : Places) → m + 1 ≤ all → AreNearPlaces m places → IsNearMotion motion
    → AreNearPlaces all (places_past motion places)
past_near m all (To r) places le h k = more_near 1 all r (omega (arith, le)) k
past_near m all Away places le h k = tt
past_near m all (By d) Lost le h k = tt
past_near m all (By d) (Within r) le h k = moved_near m 1 all r d le h k

-- what is left of places that are near is near
common_near : (n : ℕ) (r s : Rectangle) → IsNearRectangle n r → IsNearRectangle n s → IsNearRectangle n (common r s)
common_near n r s h k = (
  record {
    left = omega (arith, ints, clamps, h.0.left, k.0.left);
    right = omega (arith, ints, clamps, h.0.right, k.0.right);
    down =
        omega (arith, ints, clamps, h.0.down, k.0.down);
    up = omega (arith, ints, clamps, h.0.up, k.0.up);
  },
  record {
    left = omega (arith, ints, clamps, h.1.left, k.1.left);
    right = omega (arith, ints, clamps, h.1.right, k.1.right);
    down =
        omega (arith, ints, clamps, h.1.down, k.1.down);
    up = omega (arith, ints, clamps, h.1.up, k.1.up);
  },
)

into_near : (n : ℕ) (into : Option Rectangle) (places : Places) → 1 ≤ n → IsNearInto into → AreNearPlaces n places
    → AreNearPlaces n (places_in into places)
into_near n None places some h k = k
into_near n (Some r) Lost some h k = tt
into_near n (Some r) (Within s) some h k = common_near n r s (more_near 1 n r some h) k

pub past_sound : (h : Hull) (c : Change) → IsSoundHull h → IsSoundChange c → c.words + h.words ≤ MOST_WORDS → IsSoundHull (hull_past c h)
past_sound h c hull change few =
    record {
      scale = change.scale;
      places = into_near (c.words + h.words) c.into (places_past c.motion h.places) (omega (arith, change.some)) change.into
          (past_near h.words (c.words + h.words) c.motion h.places (omega (arith, change.some)) hull.places change.motion);
      words = few;
      depth = omega (arith, hull.depth, change.depth);
    }
