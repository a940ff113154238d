-- Who knows more before an item knows more after it, and lights no more.
use Rattle.dvg_make.proofs.Common.{Machine, ◌≡◌, ℕ, Option, Some, None, refl, arith, ints, Window, Instr, Jsrl, Jmpl, End, Rel, Abs, Lost, Entry, Key, LitBox, Empty, Span, Item, Effect, Sets, Loses, Moves, scale_set, place_past, known_past, LitExtent, Nothing, Between, box_extent, extent_of, LitInWindow, IsInside, Known, KnowsMore, ◌≤ℤ◌, DrawFields, Draws, effect_of, draw_extent, PlaceKnown, ScaleKnown, LitInBox, Loosens, LoosensPlace, Refines, callee_extent, ℤ}

-- ---- the entries that an item calls by the two lists

-- the box has its corners in order
abbrev pub IsOrdered : LitBox → Type 0
IsOrdered Empty = Unit {0}
IsOrdered (Span x_min x_max y_min y_max) = (x_min ≤ℤ x_max) × (y_min ≤ℤ y_max)

-- by the one list and by the other: none, or entries of which the second claims more
abbrev pub CalleeRefines : Option Entry → Option Entry → Type 0
CalleeRefines None None = Unit {0}
CalleeRefines None (Some f) = ⊥
CalleeRefines (Some e) None = ⊥
CalleeRefines (Some e) (Some f) = Refines f e × IsOrdered f.lit

-- ---- places

-- the one effect loses the place, or it is the other
abbrev LoosensEffect : Effect → Effect → Type 0
LoosensEffect (Sets p) b = b ≡ Sets p
LoosensEffect Loses b = Unit {0}
LoosensEffect (Moves d) b = b ≡ Moves d

effect_more : (machine : Machine) (i : Instr) (s t : Key) (o p : Option Entry) → Loosens s t → CalleeRefines o p
    → LoosensEffect (effect_of machine i s o) (effect_of machine i t p)
effect_more machine i s t o p h c = grind (arith)

-- ---- scales and counts

-- who knows more before an item knows more after it
pub more_after : (machine : Machine) (i : Item) (o p : Option Entry) (weak strong : Known) → KnowsMore weak strong → CalleeRefines o p
    → KnowsMore (known_past machine i o weak) (known_past machine i p strong)
more_after machine i o p weak strong k c = grind (arith, place_past, effect_more, scale_set)

-- ---- what is lit

-- where the first is lit at a known place and scale, and in a window or a box, so is the second
pub record LightsLess (a b : LitExtent) (p q : End) : Type 0 where
  pub known : PlaceKnown b q
  pub scale_known : ScaleKnown b
  pub shown : (w : Window) → LitInWindow w a p → LitInWindow w b q
  pub boxed : (box : LitBox) → LitInBox box a p → LitInBox box b q

none_lit : (a : LitExtent) (p q : End) → LightsLess a Nothing p q
none_lit a p q = grind (arith)

draw_less : (machine : Machine) (bright : ℕ) (d : DrawFields) (s t : Key) (p q : End) → Loosens s t → LoosensPlace p q
    → PlaceKnown (draw_extent machine bright d s) p → ScaleKnown (draw_extent machine bright d s)
    → LightsLess (draw_extent machine bright d s) (draw_extent machine bright d t) p q
draw_less machine bright d s t p q h l known scale = grind (arith, none_lit)

-- corners in a box, and those of a part of what they span
part_in_box : (box : LitBox) (x y a0 a1 b0 b1 c0 c1 d0 d1 : ℤ) → IsOrdered (Span c0 c1 d0 d1)
    → IsInside (Span c0 c1 d0 d1) (Span a0 a1 b0 b1)
    → LitInBox box (Between (record { x = a0; y = b0 }) (record { x = a1; y = b1 })) (Rel x y)
    → LitInBox box (Between (record { x = c0; y = d0 }) (record { x = c1; y = d1 })) (Rel x y)
part_in_box box x y a0 a1 b0 b1 c0 c1 d0 d1 o i h = grind (arith, ints)

part_in_window : (w : Window) (x y a0 a1 b0 b1 c0 c1 d0 d1 : ℤ) → IsOrdered (Span c0 c1 d0 d1)
    → IsInside (Span c0 c1 d0 d1) (Span a0 a1 b0 b1)
    → LitInWindow w (Between (record { x = a0; y = b0 }) (record { x = a1; y = b1 })) (Abs x y)
    → LitInWindow w (Between (record { x = c0; y = d0 }) (record { x = c1; y = d1 })) (Abs x y)
part_in_window w x y a0 a1 b0 b1 c0 c1 d0 d1 o i h = omega (arith, ints)

box_less : (a b : LitBox) (p q : End) → IsInside b a → IsOrdered b → LoosensPlace p q → PlaceKnown (box_extent a) p
    → LightsLess (box_extent a) (box_extent b) p q
box_less a Empty p q i o l known = none_lit (box_extent a) p q
box_less Empty (Span c0 c1 d0 d1) p q i o l known = absurd i
box_less (Span a0 a1 b0 b1) (Span c0 c1 d0 d1) (Rel x y) q i o l known =
    rw l (record {
      known = λ e. cc e;
      scale_known = tt;
      shown = λ w h. tt;
      boxed = λ box h. part_in_box box x y a0 a1 b0 b1 c0 c1 d0 d1 o i h;
    })
box_less (Span a0 a1 b0 b1) (Span c0 c1 d0 d1) (Abs x y) q i o l known =
    rw l (record {
      known = λ e. cc e;
      scale_known = tt;
      shown = λ w h. part_in_window w x y a0 a1 b0 b1 c0 c1 d0 d1 o i h;
      boxed = λ box h. tt;
    })
box_less (Span a0 a1 b0 b1) (Span c0 c1 d0 d1) Lost q i o l known = absurd (known refl)

called_less : (o p : Option Entry) (a b : End) → CalleeRefines o p → LoosensPlace a b → PlaceKnown (callee_extent o) a
    → LightsLess (callee_extent o) (callee_extent p) a b
called_less None None a b c k known = none_lit Nothing a b
called_less (Some e) (Some f) a b c k known = box_less e.lit f.lit a b c.0.lit c.1 k known
called_less o p a b c k known = absurd c

-- who knows more before an item lights no more there
pub lights_less : (machine : Machine) (i : Instr) (o p : Option Entry) (weak strong : Known) → KnowsMore weak strong → CalleeRefines o p
    → PlaceKnown (extent_of machine i weak.scale o) weak.place → ScaleKnown (extent_of machine i weak.scale o)
    → LightsLess (extent_of machine i weak.scale o) (extent_of machine i strong.scale p) weak.place strong.place
lights_less machine (Draws d) o p weak strong k c known scale =
    draw_less machine d.bright d weak.scale strong.scale weak.place strong.place k.scale k.place known scale
lights_less machine (Jsrl to) o p weak strong k c known scale = called_less o p weak.place strong.place c k.place known
lights_less machine (Jmpl to) o p weak strong k c known scale = called_less o p weak.place strong.place c k.place known
lights_less machine i o p weak strong k c known scale = none_lit Nothing weak.place strong.place
