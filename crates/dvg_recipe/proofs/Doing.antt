-- The changes are those of the instructions that a piece allows.
use Rattle.dvg_recipe.proofs.Common.{◌≡◌, ◌≤◌, ℕ, zero, suc, List, [], ◌∷◌, Option, Some, None, Contains, IsTrue, refl, sym, subst, arith, ◌∙◌}
use Rattle.dvg_check.proofs.Common.{ints, Known, ℤ, pos, negsuc, ◌≤ℤ◌, ◌*◌, Bool, nat_le, Point, Item, Instr, Draws, Labs, Halt, Jsrl, Rtsl, Jmpl, Format, Short, Long, Entry, End, Rel, Abs, Key, At, Any, LitBox, Empty, Span, DrawFields, Frame, target, origin, axis_move, effective_scale, IsWithin, Holds, cell_of_words, nat_tests}
unfoldable use Rattle.dvg_check.proofs.Common.{displacement, instruction_of}
use Rattle.std.specs.Prelude.{true, false, if◌then◌else◌, ◌*ℤ◌, ◌^◌, nat_abs}
use Rattle.std.proofs.Math.IntN.{pos-*ℤ-pos, negsuc-*ℤ-pos}
use Rattle.std.proofs.Math.Nat.{mul-le-mul_right}
use Rattle.dvg_words.specs.Beam.{rounded, rounded_move, factor, labs_place}
use Rattle.dvg_words.specs.declared.machine.Machine.TheVariants.{Board}
use Rattle.dvg_cert.specs.declared.entry.End.TheVariants.{Lost as LostEnd}
use Rattle.dvg_words.specs.Values.{DrawFits}
use Rattle.dvg_words.specs.Decoding.{InstrFits}
use Rattle.dvg_items.specs.Seen.{HasCallee}
use Rattle.dvg_cert.specs.Entry.{IsKey, IsEnd, IsBox, IsNumber, IsClaim}
use Rattle.dvg_items.specs.Bounds.{IsNear}
use Rattle.dvg_recipe.specs.Limits.{PieceFits, ToFits, SizesFit, IsSvecSize, IsSpanBetween, LscaleFits, DrawRangeFits}
use Rattle.dvg_recipe.proofs.Common.{◌<◌, IfSome}
use Rattle.dvg_items.specs.Known.{callee_at, stop_effect, known_past}
use Rattle.dvg_cert.specs.Lookup.{same_key}
use Rattle.dvg_items.specs.Lit.{draw_extent, box_extent}
use Rattle.dvg_recipe.specs.Recipes.{PlaceRange, PlaceSpan, DrawRange, Span as Range, TakesPlace, TakesDraw, Place, Draw, IsInSpan}
use Rattle.dvg_recipe.specs.Private.Judging.{IsNotBeside, IsTaken, IsJump}
use Rattle.dvg_recipe.specs.Private.Hulls.{Rectangle, Change, Shown, IsInRectangle, IsMotion, IsLight, IsChange, HasFormat, IsNearRectangle, IsNearMotion, IsNearLight, IsNearInto, IsSoundChange, AreSoundChanges, IsInto, IsNotOutside, span_places, into_of, DrawsAct, IsAct, at_point, places_of, place_change, still, stop_motion, box_light, call_change, moves, draw_light, draw_change, IsDrawBetween}

-- ---- moves grow with sizes

mul_mono : (a b : ℤ) (f : ℕ) → a ≤ℤ b → (a *ℤ pos f) ≤ℤ (b *ℤ pos f)
mul_mono (pos a) (pos b) f le =
    let h : a * f ≤ b * f = mul-le-mul_right f (omega (arith, ints, le)) in omega (arith, ints, h, pos-*ℤ-pos a f, pos-*ℤ-pos b f)
mul_mono (pos a) (negsuc b) f le = absurd (omega (arith, ints, le))
mul_mono (negsuc a) (pos b) f le = omega (arith, ints, negsuc-*ℤ-pos a f, pos-*ℤ-pos b f)
mul_mono (negsuc a) (negsuc b) f le =
    let h : suc b * f ≤ suc a * f =
    mul-le-mul_right f (omega (arith, ints, le)) in omega (arith, ints, h, negsuc-*ℤ-pos a f, negsuc-*ℤ-pos b f)

rounded_mono : (m n : ℕ) → m ≤ n → rounded m ≤ rounded n
rounded_mono m n le = omega (arith, le)

rounded_move_mono : (a b : ℤ) → a ≤ℤ b → rounded_move a ≤ℤ rounded_move b
rounded_move_mono (pos m) (pos n) le = let h = rounded_mono m n (omega (arith, ints, le)) in omega (arith, ints, h)
rounded_move_mono (pos m) (negsuc n) le = absurd (omega (arith, ints, le))
rounded_move_mono (negsuc m) (pos n) le = omega (arith, ints)
rounded_move_mono (negsuc m) (negsuc n) le = let h = rounded_mono (suc n) (suc m) (omega (arith, ints, le)) in omega (arith, ints, h)

either_mono : (t : Bool) (a b : ℤ) → a ≤ℤ b → (if t then a else pos 0) ≤ℤ (if t then b else pos 0)
either_mono true a b le = le
either_mono false a b le = omega (arith, ints)

axis_mono : (a b : ℤ) (local global : ℕ) → a ≤ℤ b → axis_move Board a local global ≤ℤ axis_move Board b local global
axis_mono a b local global le =
    either_mono (nat_le (effective_scale local global) 9) _ _
    (rounded_move_mono (a *ℤ pos (factor local global)) (b *ℤ pos (factor local global)) (mul_mono a b (factor local global) le))

between_moves : (low high d : DrawFields) (g : ℕ) → IsDrawBetween low high d → IsInRectangle (moves low high g) (displacement Board d g)
unfolding displacement
between_moves low high d g h = record {
  left = subst (λ l. axis_move Board low.dx l g ≤ℤ axis_move Board d.dx d.lscale g) h.lscale_low
      (axis_mono low.dx d.dx d.lscale g h.dx_low);
  right = subst (λ l. axis_move Board d.dx d.lscale g ≤ℤ axis_move Board high.dx l g) h.lscale_high
      (axis_mono d.dx high.dx d.lscale g h.dx_high);
  bottom = subst (λ l. axis_move Board low.dy l g ≤ℤ axis_move Board d.dy d.lscale g) h.lscale_low
      (axis_mono low.dy d.dy d.lscale g h.dy_low);
  top = subst (λ l. axis_move Board d.dy d.lscale g ≤ℤ axis_move Board high.dy l g) h.lscale_high
      (axis_mono d.dy high.dy d.lscale g h.dy_high);
}

-- ---- draws

at_itself : (p : Point) → IsInRectangle (at_point p) p
at_itself p = record { left = omega (arith, ints); right = omega (arith, ints); bottom = omega (arith, ints); top = omega (arith, ints) }

light_at : (low high d : DrawFields) (b h g : ℕ) → b ≤ h → IsInRectangle (moves low high g) (displacement Board d g)
    → IsLight (draw_light h (Shown (at_point origin) (moves low high g))) (draw_extent Board b d (At g))
light_at low high d zero zero g le inside = tt
light_at low high d zero (suc h) g le inside = tt
light_at low high d (suc b) zero g le inside = absurd (omega (arith, le))
light_at low high d (suc b) (suc h) g le inside = (at_itself origin, inside)

light_any : (low high d : DrawFields) (b h : ℕ) → b ≤ h
    → IsLight (draw_change Short low (record high { bright = h }) None Any).light (draw_extent Board b d Any)
light_any low high d zero zero le = tt
light_any low high d zero (suc h) le = tt
light_any low high d (suc b) zero le = absurd (omega (arith, le))
light_any low high d (suc b) (suc h) le = tt

pub draw_is : (low high d : DrawFields) (into : Option Rectangle) (scale : Key) (at : ℕ) (format : Format) → IsDrawBetween low high d
    → IsChange None scale (draw_change format low high into scale) (record { at = at; format = format; instr = Draws d })
draw_is low high d into (At g) at format h =
    let inside = between_moves low high d g h in
    record {
      motion = inside;
      light = light_at low high d d.bright high.bright g h.bright inside;
      scale_after = refl;
      words =
          omega arith;
      depth = omega arith;
      named_one = λ t. tt;
      keyed = λ t. tt;
    }
draw_is low high d into Any at format h =
    record {
      motion = tt;
      light = light_any low high d d.bright high.bright h.bright;
      scale_after = refl;
      words = omega arith;
      depth =
          omega arith;
      named_one = λ t. tt;
      keyed = λ t. tt;
    }

-- ---- a LABS

pub place_is : (r : PlaceRange) (x y s : ℕ) (scale : Key) (at : ℕ) (format : Format) → TakesPlace r (Labs x y s) → format ≡ Long
    → IsChange None scale (place_change (places_of r) s) (record { at = at; format = format; instr = Labs x y s })
place_is r x y s scale at format h is =
    let inside : IsInRectangle (places_of r) (labs_place Board x y) =
    record {
      left = omega (arith, ints, h.0.low);
      right = omega (arith, ints, h.0.high);
      bottom = omega (arith, ints, h.1.low);
      top =
          omega (arith, ints, h.1.high);
    } in
    record {
      motion = inside;
      light = tt;
      scale_after = refl;
      words = grind (arith, is);
      depth = omega arith;
      named_one = λ t. tt;
      keyed = λ t. tt;
    }

-- ---- calls and jumps

stop_is : (stop : End) → IsMotion (stop_motion stop) (stop_effect stop)
stop_is (Rel x y) = at_itself (record { x = x; y = y })
stop_is (Abs x y) = at_itself (record { x = x; y = y })
stop_is LostEnd = tt

box_is : (lit : LitBox) → IsLight (box_light lit) (box_extent lit)
box_is Empty = tt
box_is (Span a b c d) = (at_itself (record { x = a; y = c }), at_itself (record { x = b; y = d }))

not_named : (to : ℕ) → IsTrue false → HasCallee (Some to) None
not_named to h = grind (arith, h)

same_keys : (a b : Key) → IsTrue (same_key a b) → a ≡ b
same_keys (At m) (At n) h = grind (arith, nat_tests, h)
same_keys (At m) Any h = grind (arith, nat_tests, h)
same_keys Any (At n) h = grind (arith, nat_tests, h)
same_keys Any Any h = refl

pub call_is : (named : Option Entry) (to : ℕ) (scale : Key) (at : ℕ) (format : Format) → format ≡ Short
    → IsChange named scale (call_change named scale) (record { at = at; format = format; instr = Jsrl to })
call_is None to scale at format is =
    record {
      motion = at_itself origin;
      light = tt;
      scale_after = refl;
      words = grind (arith, is);
      depth = omega arith;
      named_one =
          not_named to;
      keyed = λ t. tt;
    }
call_is (Some e) to scale at format is =
    record {
      motion = stop_is e.stop;
      light = box_is e.lit;
      scale_after = refl;
      words = grind (arith, is);
      depth = omega arith;
      named_one = λ t. tt;
      keyed = same_keys e.key scale;
    }

pub still_is : (to : ℕ) (scale : Key) (at : ℕ) (format : Format) → format ≡ Short
    → IsChange None scale (still scale) (record { at = at; format = format; instr = Jmpl to })
still_is to scale at format is =
    record {
      motion = at_itself origin;
      light = tt;
      scale_after = refl;
      words = grind (arith, is);
      depth = omega arith;
      named_one =
          λ t. tt;
      keyed = λ t. tt;
    }

pub jump_is : (list : List Entry) (scale : Key) (known : Known) (i : Item) → IsJump known i → HasFormat i.format i.instr
    → IsChange (callee_at list (target Frame i.instr) scale) scale (still scale) i
jump_is list scale known i jump format = each i.at i.format i.instr jump.0 jump.1 format
  where
    each : (at : ℕ) (format : Format) (instr : Instr) (to : ℕ) → instr ≡ Jmpl to → HasFormat format instr
        → IsChange (callee_at list (target Frame instr) scale) scale (still scale) (record { at = at; format = format; instr = instr })
    each at format instr to jumps is =
        subst (λ (j : Instr). HasFormat format j
        → IsChange (callee_at list (target Frame j) scale) scale (still scale) (record { at = at; format = format; instr = j }))
        (sym jumps)
        (λ short. still_is to scale at format short) is

-- ---- limits

pub origin_near : IsNearRectangle 1 (at_point origin)
origin_near = (
  record { left = omega (arith, ints); right = omega (arith, ints); down = omega (arith, ints); up = omega (arith, ints) },
  record { left = omega (arith, ints); right = omega (arith, ints); down = omega (arith, ints); up = omega (arith, ints) },
)

pub still_sound : (scale : Key) → IsKey scale → IsSoundChange (still scale)
still_sound scale key =
    record { motion = origin_near; light = tt; into = tt; scale = key; some = omega arith; few = omega arith; depth = omega arith }

pub one_sound : (c : Change) → IsSoundChange c → AreSoundChanges (c ∷ [])
one_sound c h = record { each = λ x there. subst IsSoundChange (only x there) h }
  where
    only : (x : Change) → Contains (c ∷ []) x → c ≡ x
    only x (zero, lt, is) = is
    only x (suc k, lt, is) = absurd (omega (arith, lt))

pub none_sound : AreSoundChanges []
none_sound = record { each = λ c there. absurd (omega (arith, there.1)) }

at_near : (p : Point) → IsNear 1 p → IsNearRectangle 1 (at_point p)
at_near p h = (h, h)

pub places_near : (r : PlaceRange) → PieceFits (Place r) → IsNearRectangle 1 (places_of r)
places_near r fits = (
  record {
    left = omega (arith, ints, fits.0.least, fits.0.ordered);
    right = omega (arith, ints, fits.0.greatest, fits.0.ordered);
    down =
        omega (arith, ints, fits.1.least, fits.1.ordered);
    up = omega (arith, ints, fits.1.greatest, fits.1.ordered);
  },
  record {
    left = omega (arith, ints, fits.0.least, fits.0.ordered);
    right = omega (arith, ints, fits.0.greatest, fits.0.ordered);
    down =
        omega (arith, ints, fits.1.least, fits.1.ordered);
    up = omega (arith, ints, fits.1.greatest, fits.1.ordered);
  },
)

number_near : (x y : ℤ) → IsNumber x → IsNumber y → IsNear 1 (record { x = x; y = y })
number_near x y h k =
    record {
      left = omega (arith, ints, h.0);
      right = omega (arith, ints, h.1);
      down = omega (arith, ints, k.0);
      up =
          omega (arith, ints, k.1);
    }

stop_near : (stop : End) → IsEnd stop → IsNearMotion (stop_motion stop)
stop_near (Rel x y) h = at_near _ (number_near x y h.0 h.1)
stop_near (Abs x y) h = at_near _ (number_near x y h.0 h.1)
stop_near LostEnd h = tt

box_near : (lit : LitBox) → IsBox lit → IsNearLight (box_light lit)
box_near Empty h = tt
box_near (Span a b c d) h = (at_near _ (number_near a c h.0.0 h.1.0), at_near _ (number_near b d h.0.1 h.1.1))

pub call_sound : (named : Option Entry) (scale : Key) → IfSome named IsClaim → IsKey scale → IsSoundChange (call_change named scale)
call_sound None scale claim key =
    record { motion = origin_near; light = tt; into = tt; scale = key; some = omega arith; few = omega arith; depth = omega arith }
call_sound (Some e) scale claim key =
    record {
      motion = stop_near e.stop claim.stop;
      light = box_near e.lit claim.lit;
      into = tt;
      scale = claim.scale;
      some = omega arith;
      few = omega (arith, claim.words);
      depth = omega (arith, claim.depth);
    }

-- ---- one change of all

-- no further than a draw is near
pub within_near : (p : Point) → IsWithin (2 ^ 31) p → IsNear 1 p
within_near p h =
    record {
      left = omega (arith, ints, h.left);
      right = omega (arith, ints, h.right);
      down = omega (arith, ints, h.down);
      up =
          omega (arith, ints, h.up);
    }

-- a call leads anywhere
pub call_into : (named : Option Entry) (scale : Key) (known : Known) (i : Item) → IsInto (call_change named scale).into known i
call_into None scale known i = tt
call_into (Some e) scale known i = tt

draw_into : (format : Format) (low high : DrawFields) (into : Option Rectangle) (scale : Key) (known : Known) (i : Item)
    → IsInto into known i → IsInto (draw_change format low high into scale).into known i
draw_into format low high into (At g) known i h = h
draw_into format low high into Any known i h = h

-- ---- the draws of a range

svec_near : (z : ℤ) → IsSvecSize z → IsSpanBetween (negsuc 1022) (pos 1023) (record { low = z; high = z })
svec_near z h = grind (arith, ints)

-- a size that a draw can have
record IsSize (z : ℤ) : Type 0 where
  low : negsuc 1022 ≤ℤ z
  high : z ≤ℤ pos 1023

size_in : (format : Format) (range : Range) (z : ℤ) → SizesFit format range → IsInSpan range z → IsSize z
size_in Short range z h k =
    let a = svec_near range.low h.1 in let b =
    svec_near range.high h.2 in record { low = omega (arith, ints, a.least, k.low); high = omega (arith, ints, b.greatest, k.high) }
size_in Long range z h k = record { low = omega (arith, ints, h.least, k.low); high = omega (arith, ints, h.greatest, k.high) }

lscale_few : (format : Format) (lscale : ℕ) → LscaleFits format lscale → lscale ≤ 9
lscale_few Short lscale h = omega (arith, h.1)
lscale_few Long lscale h = h

abs_few : (z : ℤ) → pos 0 ≤ℤ z → z ≤ℤ pos 15 → nat_abs z ≤ 15
abs_few (pos n) least most = omega (arith, ints, most)
abs_few (negsuc n) least most = absurd (omega (arith, ints, least))

-- a draw of the range has fields that fit their bits
pub corner_fits : (r : DrawRange) (dx dy bright : ℤ) → DrawRangeFits r → IsInSpan r.dx dx → IsInSpan r.dy dy → IsInSpan r.bright bright
    → DrawFits (record { dx = dx; dy = dy; lscale = r.lscale; bright = nat_abs bright })
corner_fits r dx dy bright h x y b =
    let a = size_in r.format r.dx dx h.dx x in
    let c = size_in r.format r.dy dy h.dy y in
    record {
      dx_low = a.low;
      dx_high = a.high;
      dy_low = c.low;
      dy_high = c.high;
      lscale = lscale_few r.format r.lscale h.lscale;
      bright = abs_few bright (omega (arith, ints, h.bright.least, b.low)) (omega (arith, ints, h.bright.greatest, b.high));
    }

-- the draw is the corner of a range
pub record IsCorner (r : DrawRange) (x y b : ℤ) (d : DrawFields) : Type 0 where
  pub lscale : d.lscale ≡ r.lscale
  pub dx : d.dx ≡ x
  pub dy : d.dy ≡ y
  pub bright : pos d.bright ≡ b

-- a place that is not beside the rectangle, in units
not_outside : (span : PlaceSpan) (place : End) → IsNotBeside span place → IsNotOutside (span_places span) place
not_outside span (Rel x y) h = tt
not_outside span (Abs x y) h = record { left = h.0.low; right = h.0.high; bottom = h.1.low; top = h.1.high }
not_outside span LostEnd h = tt

-- a draw that leads to where it has to
draws_into : (to : Option PlaceSpan) (known : Known) (i : Item) (d : DrawFields) → i.instr ≡ Draws d
    → IfSome to (λ span. IsNotBeside span (known_past Board i None known).place) → IsInto (into_of to) known i
draws_into None known i d is h = tt
draws_into (Some span) known i d is h = (d, is, not_outside span (known_past Board i None known).place h)

-- what lies between two corners does what draws between them do
pub draws_are : (r : DrawRange) (low high : DrawFields) → IsCorner r r.dx.low r.dy.low r.bright.low low
    → IsCorner r r.dx.high r.dy.high r.bright.high high
    → (list : List Entry) (known : Known) (i : Item) → IsTaken (Draw r) known i
    → IsAct list (DrawsAct r.format low high (into_of r.to)) known i
draws_are r low high l h list known i taken =
    record {
      each = λ scale has. each scale i.at i.format i.instr taken.0 has;
      into = λ scale. draw_into r.format low high (into_of r.to) scale known i (leads i.instr refl taken.0.1);
    }
  where
    between : (d : DrawFields) → TakesDraw r (Draws d) → IsDrawBetween low high d
    between d t = record {
      lscale_low = t.0 ∙ sym l.lscale;
      lscale_high = t.0 ∙ sym h.lscale;
      dx_low = omega (arith, ints, l.dx, t.1.low);
      dx_high = omega (arith, ints, h.dx, t.1.high);
      dy_low = omega (arith, ints, l.dy, t.2.low);
      dy_high = omega (arith, ints, h.dy, t.2.high);
      bright = omega (arith, ints, h.bright, t.3.high);
    }

    each : (scale : Key) (at : ℕ) (format : Format) (instr : Instr) → (format ≡ r.format) × TakesDraw r instr → HasFormat format instr
        → IsChange (callee_at list (target Frame instr) scale) scale (draw_change r.format low high (into_of r.to) scale)
        (record { at = at; format = format; instr = instr })
    each scale at format (Draws d) t has =
        subst (λ (f : Format). IsChange None scale (draw_change r.format low high (into_of r.to) scale)
        (record { at = at; format = f; instr = Draws d })) (sym t.0) (draw_is low high d (into_of r.to) scale at r.format (between d t.1))
    each scale at format Halt t has = absurd t.1
    each scale at format (Labs x y s) t has = absurd t.1
    each scale at format (Jsrl to) t has = absurd t.1
    each scale at format Rtsl t has = absurd t.1
    each scale at format (Jmpl to) t has = absurd t.1

    leads : (instr : Instr) → i.instr ≡ instr → TakesDraw r instr → IsInto (into_of r.to) known i
    leads (Draws d) is t = draws_into r.to known i d is taken.1
    leads Halt is t = absurd t
    leads (Labs x y s) is t = absurd t
    leads (Jsrl to) is t = absurd t
    leads Rtsl is t = absurd t
    leads (Jmpl to) is t = absurd t

-- the rectangle of a range is near
pub span_near : (format : Format) (to : Option PlaceSpan) → ToFits format to → IsNearInto (into_of to)
span_near format None fits = tt
span_near Short (Some span) fits = absurd fits
span_near Long (Some span) fits = (
  record {
    left = omega (arith, ints, fits.0.least, fits.0.ordered);
    right = omega (arith, ints, fits.0.greatest, fits.0.ordered);
    down =
        omega (arith, ints, fits.1.least, fits.1.ordered);
    up = omega (arith, ints, fits.1.greatest, fits.1.ordered);
  },
  record {
    left = omega (arith, ints, fits.0.least, fits.0.ordered);
    right = omega (arith, ints, fits.0.greatest, fits.0.ordered);
    down =
        omega (arith, ints, fits.1.least, fits.1.ordered);
    up = omega (arith, ints, fits.1.greatest, fits.1.ordered);
  },
)

-- ---- the instruction of two words

-- the fields of an instruction fit their bits
pub words_fit : (first second : ℕ) (format : Format) (instr : Instr) → first < 65536 → second < 65536
    → cell_of_words Board (Some first) (Some second) ≡ Holds format instr → InstrFits instr
unfolding instruction_of
words_fit first second format (Draws d) one two is = grind (arith, ints, nat_le, nat_tests, is, one, two)
words_fit first second format (Labs x y s) one two is = grind (arith, nat_le, nat_tests, is, one, two)
words_fit first second format Halt one two is = tt
words_fit first second format (Jsrl to) one two is = grind (arith, nat_le, nat_tests, is, one, two)
words_fit first second format Rtsl one two is = tt
words_fit first second format (Jmpl to) one two is = grind (arith, nat_le, nat_tests, is, one, two)
