-- Hulls: all that may be known at a point of a recipe, at one scale each, and what the items of a piece may do to it.
use Rattle.std.specs.Int.{int_min, int_max}
use Rattle.std.specs.Prelude.{◌≡◌, ℕ, zero, suc, pos, ◌*ℤ◌, true, false, None, Some, ◌+◌, ◌≤◌, ◌<◌, ◌≤ℤ◌, max, length, slice_index_or, List, Option, Contains, IsTrue, IfSome, unwrap_or}
use Rattle.dvg_words.specs.Values.{Window, DrawFields}
use Rattle.dvg_words.specs.declared.machine.Machine.TheVariants.{Board}
use Rattle.dvg_words.specs.declared.beam.Point.{Point}
use Rattle.dvg_words.specs.declared.instruction.Instr.{Instr}
use Rattle.dvg_words.specs.declared.instruction.Instr.TheVariants.{Draw as Draws, Labs, Halt, Jsrl, Rtsl, Jmpl}
use Rattle.dvg_words.specs.declared.instruction.Format.{Format}
use Rattle.dvg_words.specs.declared.instruction.Format.TheVariants.{Short, Long}
use Rattle.dvg_words.specs.Beam.{InWindow, shift, origin, displacement}
use Rattle.dvg_words.specs.Decoding.{word_count}
use Rattle.dvg_cert.specs.declared.entry.Key.{Key}
use Rattle.dvg_cert.specs.declared.entry.Key.TheVariants.{At, Any}
use Rattle.dvg_cert.specs.declared.entry.LitBox.{LitBox}
use Rattle.dvg_cert.specs.declared.entry.LitBox.TheVariants.{Empty, Span}
use Rattle.dvg_cert.specs.Lookup.{same_key}
use Rattle.dvg_make.specs.Made.{HasEntry}
use Rattle.dvg_recipe.specs.declared.piece.PlaceRange.{PlaceRange}
use Rattle.dvg_recipe.specs.declared.piece.PlaceSpan.{PlaceSpan}
use Rattle.dvg_cert.specs.declared.entry.End.{End}
use Rattle.dvg_cert.specs.declared.entry.End.TheVariants.{Rel, Abs, Lost as LostEnd}
use Rattle.dvg_cert.specs.declared.entry.Entry.{Entry}
use Rattle.dvg_cert.specs.declared.limits.TheConstants.{MOST_WORDS}
use Rattle.dvg_cert.specs.Entry.{IsKey}
use Rattle.dvg_items.specs.declared.item.Item.{Item}
use Rattle.dvg_items.specs.declared.item.Kind.TheVariants.{Frame}
use Rattle.dvg_items.specs.declared.known.Known.{Known}
use Rattle.dvg_items.specs.declared.known.Effect.{Effect}
use Rattle.dvg_items.specs.declared.known.Effect.TheVariants.{Sets, Loses, Moves}
use Rattle.dvg_items.specs.declared.seen.Seen.{Seen}
use Rattle.dvg_items.specs.declared.lit.LitExtent.{LitExtent}
use Rattle.dvg_items.specs.declared.lit.LitExtent.TheVariants.{Nothing, Between, Anywhere}
use Rattle.dvg_items.specs.Known.{target, callee_at, scale_set, effect_of, callee_words, depth_under, known_past}
use Rattle.dvg_items.specs.Seen.{HasCallee, seen_with}
use Rattle.dvg_items.specs.Lit.{extent_of, PlaceKnown, ScaleKnown, LitInWindow}
use Rattle.dvg_items.specs.Bounds.{IsNear}
pub use Rattle.dvg_recipe.specs.declared.hull.Rectangle.{Rectangle}
pub use Rattle.dvg_recipe.specs.declared.hull.Places.{Places}
pub use Rattle.dvg_recipe.specs.declared.hull.Places.TheVariants.{Lost, Within}
pub use Rattle.dvg_recipe.specs.declared.hull.Motion.{Motion}
pub use Rattle.dvg_recipe.specs.declared.hull.Motion.TheVariants.{To, Away, By}
pub use Rattle.dvg_recipe.specs.declared.hull.Light.{Light}
pub use Rattle.dvg_recipe.specs.declared.hull.Light.TheVariants.{Dark, Shown, Unbounded}
pub use Rattle.dvg_recipe.specs.declared.hull.Act.{Act}
pub use Rattle.dvg_recipe.specs.declared.hull.Act.TheVariants.{Draws as DrawsAct, Place as PlaceAct, Call as CallAct, Still as StillAct}
pub use Rattle.dvg_recipe.specs.declared.hull.Change.{Change}

-- ---- what may be known

-- the point is in the rectangle, edges included
pub record IsInRectangle (r : Rectangle) (p : Point) : Type 0 where
  pub left : r.low.x ≤ℤ p.x
  pub right : p.x ≤ℤ r.high.x
  pub bottom : r.low.y ≤ℤ p.y
  pub top : p.y ≤ℤ r.high.y

-- the place is one of these; where one is lost, any is
abbrev pub IsAmong : Places → End → Type 0
IsAmong Lost place = Unit {0}
IsAmong (Within r) (Rel x y) = ⊥
IsAmong (Within r) (Abs x y) = IsInRectangle r (record { x = x; y = y })
IsAmong (Within r) LostEnd = ⊥

-- all that may be known at one scale
pub record Hull : Type 0 where
  pub scale : Key
  pub places : Places
  pub words : ℕ
  pub depth : ℕ

-- the hull has what is known
pub record IsInHull (h : Hull) (k : Known) : Type 0 where
  pub scale : k.scale ≡ h.scale
  pub place : IsAmong h.places k.place
  pub words : k.words ≤ h.words
  pub depth : k.depth ≤ h.depth

-- one of the hulls has what is known
pub record Covers (hulls : List Hull) (k : Known) : Type 0 where
  pub hull : Hull
  pub listed : Contains hulls hull
  pub inside : IsInHull hull k

-- the hull at the index is of this scale
pub record HasScaleAt (hulls : List Hull) (scale : Key) (index : ℕ) : Type 0 where
  pub within : index < length hulls
  pub is : (d : Hull) → (slice_index_or hulls index d).scale ≡ scale

-- what the first hulls have, the others have
pub record AreUnder (lower upper : List Hull) : Type 0 where
  pub each : (k : Known) → Covers lower k → Covers upper k

-- ---- what items may do

-- the motion has the effect
abbrev pub IsMotion : Motion → Effect → Type 0
IsMotion (To r) (Sets p) = IsInRectangle r p
IsMotion (To r) Loses = ⊥
IsMotion (To r) (Moves d) = ⊥
IsMotion Away effect = Unit {0}
IsMotion (By r) (Sets p) = ⊥
IsMotion (By r) Loses = ⊥
IsMotion (By r) (Moves d) = IsInRectangle r d

-- the light has what is lit
abbrev pub IsLight : Light → LitExtent → Type 0
IsLight light Nothing = Unit {0}
IsLight Dark (Between a b) = ⊥
IsLight Dark Anywhere = ⊥
IsLight (Shown from to) (Between a b) = IsInRectangle from a × IsInRectangle to b
IsLight (Shown from to) Anywhere = ⊥
IsLight Unbounded (Between a b) = Unit {0}
IsLight Unbounded Anywhere = Unit {0}

-- the place is not known to be outside the rectangle
abbrev pub IsNotOutside : Rectangle → End → Type 0
IsNotOutside r (Rel x y) = Unit {0}
IsNotOutside r (Abs x y) = IsInRectangle r (record { x = x; y = y })
IsNotOutside r LostEnd = Unit {0}

-- the item is a draw, and does not lead from what is known to a place outside the rectangle, if there is one
abbrev pub IsInto : Option Rectangle → Known → Item → Type 0
IsInto None known i = Unit {0}
IsInto (Some r) known i = (d : DrawFields) × (i.instr ≡ Draws d) × IsNotOutside r (known_past Board i None known).place

-- at this scale, the item, with the entry that it calls, does what the change says, and no more
pub record IsChange (named : Option Entry) (scale : Key) (change : Change) (i : Item) : Type 0 where
  pub motion : IsMotion change.motion (effect_of Board i.instr scale named)
  pub light : IsLight change.light (extent_of Board i.instr scale named)
  pub scale_after : unwrap_or (scale_set i.instr named) scale ≡ change.scale
  pub words : word_count i.format + callee_words named ≤ change.words
  pub depth : depth_under i.instr named ≤ change.depth
  pub named_one : IsTrue change.named → HasCallee (target Frame i.instr) named
  pub keyed : IsTrue change.named → IfSome named (λ e. e.key ≡ scale)

-- the format is that of the instruction, where the instruction has but one
abbrev pub HasFormat : Format → Instr → Type 0
HasFormat format (Draws d) = Unit {0}
HasFormat format (Labs x y gscale) = format ≡ Long
HasFormat format Halt = format ≡ Short
HasFormat format (Jsrl to) = format ≡ Short
HasFormat format Rtsl = format ≡ Short
HasFormat format (Jmpl to) = format ≡ Short

-- ---- what a change does to a hull

-- each point of one rectangle, moved by each of another
abbrev pub moved : Rectangle → Rectangle → Rectangle
moved r by = record { low = shift r.low by.low; high = shift r.high by.high }

-- the places past a motion
abbrev pub places_past : Motion → Places → Places
places_past (To r) places = Within r
places_past Away places = Lost
places_past (By d) Lost = Lost
places_past (By d) (Within r) = Within (moved r d)

-- the points that two rectangles have
abbrev pub common : Rectangle → Rectangle → Rectangle
common r s =
    record {
      low = record { x = int_max r.low.x s.low.x; y = int_max r.low.y s.low.y };
      high = record { x = int_min r.high.x s.high.x; y = int_min r.high.y s.high.y };
    }

-- the points of the second rectangle that are in the first, if there is one
abbrev pub part_in : Option Rectangle → Rectangle → Rectangle
part_in None r = r
part_in (Some into) r = common into r

-- the places that are in the rectangle, if there is one
abbrev pub places_in : Option Rectangle → Places → Places
places_in None places = places
places_in (Some into) Lost = Lost
places_in (Some into) (Within r) = Within (common into r)

-- the hull past a change
abbrev pub hull_past : Change → Hull → Hull
hull_past change h =
    record {
      scale = change.scale;
      places = places_in change.into (places_past change.motion h.places);
      words = change.words + h.words;
      depth = max change.depth h.depth;
    }

-- the least rectangle that has two others
abbrev pub around : Rectangle → Rectangle → Rectangle
around r s =
    record {
      low = record { x = int_min r.low.x s.low.x; y = int_min r.low.y s.low.y };
      high = record { x = int_max r.high.x s.high.x; y = int_max r.high.y s.high.y };
    }

-- the least places that have two others
abbrev pub joined_places : Places → Places → Places
joined_places Lost others = Lost
joined_places (Within r) Lost = Lost
joined_places (Within r) (Within s) = Within (around r s)

-- the least hull that has two others of one scale
abbrev pub joined : Hull → Hull → Hull
joined a b =
    record { scale = a.scale; places = joined_places a.places b.places; words = max a.words b.words; depth = max a.depth b.depth }

-- all points of the rectangle are in the window
abbrev pub IsShown : Window → Rectangle → Type 0
IsShown w r = InWindow w r.low × InWindow w r.high

-- what is lit from one of these places is in the window; what a draw into a rectangle lights ends there
abbrev pub LightsIn : Window → Option Rectangle → Places → Light → Type 0
LightsIn w into places Dark = Unit {0}
LightsIn w into Lost (Shown from to) = ⊥
LightsIn w into (Within r) (Shown from to) = IsShown w (moved r from) × IsShown w (part_in into (moved r to))
LightsIn w into places Unbounded = ⊥

-- from each that the hull has, the change keeps all rules
pub record HullKeeps (w : Window) (budget : ℕ) (hull : Hull) (change : Change) : Type 0 where
  pub lights : LightsIn w change.into hull.places change.light
  pub named : IsTrue change.named
  pub few : change.words + hull.words ≤ budget

-- ---- the changes of instructions

-- the rectangle of one point
abbrev pub at_point : Point → Rectangle
at_point p = record { low = p; high = p }

-- the places that a LABS of the range sets
abbrev pub places_of : PlaceRange → Rectangle
places_of r =
    record {
      low = record { x = pos 1024 *ℤ r.x.low; y = pos 1024 *ℤ r.y.low };
      high = record { x = pos 1024 *ℤ r.x.high; y = pos 1024 *ℤ r.y.high };
    }

-- a LABS to one of these places, at this scale
abbrev pub place_change : Rectangle → ℕ → Change
place_change r scale = record { motion = To r; light = Dark; scale = At scale; words = 2; depth = 0; named = true; into = None }

-- a short instruction that leaves place and scale as they are
abbrev pub still : Key → Change
still scale = record { motion = By (at_point origin); light = Dark; scale = scale; words = 1; depth = 0; named = true; into = None }

-- where a called shape leaves the beam
abbrev pub stop_motion : End → Motion
stop_motion (Rel x y) = By (at_point (record { x = x; y = y }))
stop_motion (Abs x y) = To (at_point (record { x = x; y = y }))
stop_motion LostEnd = Away

-- what a called shape lights
abbrev pub box_light : LitBox → Light
box_light Empty = Dark
box_light (Span x_min x_max y_min y_max) =
    Shown (at_point (record { x = x_min; y = y_min })) (at_point (record { x = x_max; y = y_max }))

-- a JSRL at this scale that calls this entry
abbrev pub call_change : Option Entry → Key → Change
call_change None scale =
    record { motion = By (at_point origin); light = Dark; scale = scale; words = 1; depth = 0; named = false; into = None }
call_change (Some e) scale =
    record {
      motion = stop_motion e.stop;
      light = box_light e.lit;
      scale = e.scale;
      words = 1 + e.words;
      depth = 1 + e.depth;
      named = same_key e.key scale;
      into = None;
    }

-- the moves of draws between two
abbrev pub moves : DrawFields → DrawFields → ℕ → Rectangle
moves low high gscale = record { low = displacement Board low gscale; high = displacement Board high gscale }

-- what draws of these moves light, the brightest of this intensity
abbrev pub draw_light : ℕ → Light → Light
draw_light zero lit = Dark
draw_light (suc n) lit = lit

-- the places of a rectangle, in units of 1/1024
abbrev pub span_places : PlaceSpan → Rectangle
span_places span =
    record {
      low = record { x = pos 1024 *ℤ span.x.low; y = pos 1024 *ℤ span.y.low };
      high = record { x = pos 1024 *ℤ span.x.high; y = pos 1024 *ℤ span.y.high };
    }

-- where draws have to lead, in units of 1/1024
abbrev pub into_of : Option PlaceSpan → Option Rectangle
into_of None = None
into_of (Some span) = Some (span_places span)

-- draws between two, at this scale, into a rectangle, if there is one
abbrev pub draw_change : Format → DrawFields → DrawFields → Option Rectangle → Key → Change
draw_change format low high into (At gscale) =
    record {
      motion = By (moves low high gscale);
      light = draw_light high.bright (Shown (at_point origin) (moves low high gscale));
      scale = At gscale;
      words = word_count format;
      depth = 0;
      named = true;
      into = into;
    }
draw_change format low high into Any =
    record {
      motion = Away;
      light = draw_light high.bright Unbounded;
      scale = Any;
      words = word_count format;
      depth = 0;
      named = true;
      into = into;
    }

-- what the act does at this scale
abbrev pub act_change : List Entry → Act → Key → Change
act_change list (DrawsAct format low high into) scale = draw_change format low high into scale
act_change list (PlaceAct places global) scale = place_change places global
act_change list (CallAct to) scale = call_change (callee_at list (Some to) scale) scale
act_change list StillAct scale = still scale

-- at each scale the item does what the act does, and no more, and it leads from what is known to where it has to
pub record IsAct (list : List Entry) (act : Act) (known : Known) (i : Item) : Type 0 where
  pub each :
      (scale : Key) → HasFormat i.format i.instr
      → IsChange (callee_at list (target Frame i.instr) scale) scale (act_change list act scale) i
  pub into : (scale : Key) → IsInto (act_change list act scale).into known i

-- the draw has the local scale of two others, and its sizes and its intensity lie between theirs
pub record IsDrawBetween (low high d : DrawFields) : Type 0 where
  pub lscale_low : d.lscale ≡ low.lscale
  pub lscale_high : d.lscale ≡ high.lscale
  pub dx_low : low.dx ≤ℤ d.dx
  pub dx_high : d.dx ≤ℤ high.dx
  pub dy_low : low.dy ≤ℤ d.dy
  pub dy_high : d.dy ≤ℤ high.dy
  pub bright : d.bright ≤ high.bright

-- ---- items

-- what an item keeps beside the rules on where it leads
pub record KeepsOthers (w : Window) (budget : ℕ) (v : Seen) : Type 0 where
  pub place : PlaceKnown v.extent v.place
  pub scale : ScaleKnown v.extent
  pub shown : LitInWindow w v.extent v.place
  pub named : HasCallee (target Frame v.item.instr) v.callee
  pub few : v.after.words ≤ budget

-- what is called has its entry at the very scale
abbrev pub IsKeyed : List Entry → Option ℕ → Key → Type 0
IsKeyed list None scale = Unit {0}
IsKeyed list (Some to) scale = HasEntry list to scale

-- past what is known, the item keeps these rules, what it calls has its entry at the very scale, and the hulls have what is known behind it
pub record GoesOn (w : Window) (list : List Entry) (budget : ℕ) (next : List Hull) (k : Known) (i : Item) : Type 0 where
  pub keeps : KeepsOthers w budget (seen_with Board (callee_at list (target Frame i.instr) k.scale) k i)
  pub keyed : IsKeyed list (target Frame i.instr) k.scale
  pub covered : Covers next (known_past Board i (callee_at list (target Frame i.instr) k.scale) k)

-- past all that these hulls have, each item of which P holds does so
pub record LeadOn (w : Window) (list : List Entry) (budget : ℕ) (P : Known → Item → Type 0) (here next : List Hull) : Type 0 where
  pub each : (k : Known) (i : Item) → Covers here k → P k i → HasFormat i.format i.instr → GoesOn w list budget next k i

-- ---- limits for the code's numbers

-- the corners are no further from 0 than n items can move the beam
abbrev pub IsNearRectangle : ℕ → Rectangle → Type 0
IsNearRectangle n r = IsNear n r.low × IsNear n r.high

-- so are those of the places
abbrev pub AreNearPlaces : ℕ → Places → Type 0
AreNearPlaces n Lost = Unit {0}
AreNearPlaces n (Within r) = IsNearRectangle n r

-- no further than one item
abbrev pub IsNearMotion : Motion → Type 0
IsNearMotion (To r) = IsNearRectangle 1 r
IsNearMotion Away = Unit {0}
IsNearMotion (By r) = IsNearRectangle 1 r

-- no further than one item
abbrev pub IsNearLight : Light → Type 0
IsNearLight Dark = Unit {0}
IsNearLight (Shown from to) = IsNearRectangle 1 from × IsNearRectangle 1 to
IsNearLight Unbounded = Unit {0}

-- the numbers of a hull are within the limits
pub record IsSoundHull (h : Hull) : Type 0 where
  pub scale : IsKey h.scale
  pub places : AreNearPlaces h.words h.places
  pub words : h.words ≤ MOST_WORDS
  pub depth : h.depth ≤ 4

-- no further than a LABS can set it
abbrev pub IsNearInto : Option Rectangle → Type 0
IsNearInto None = Unit {0}
IsNearInto (Some r) = IsNearRectangle 1 r

-- the numbers of a change are within the limits
pub record IsSoundChange (c : Change) : Type 0 where
  pub motion : IsNearMotion c.motion
  pub light : IsNearLight c.light
  pub into : IsNearInto c.into
  pub scale : IsKey c.scale
  pub some : 1 ≤ c.words
  pub few : c.words ≤ MOST_WORDS + 2
  pub depth : c.depth ≤ 4

-- so are those of each
pub record AreSoundChanges (changes : List Change) : Type 0 where
  pub each : (c : Change) → Contains changes c → IsSoundChange c

-- so are those that the act has itself
abbrev pub ActFits : Act → Type 0
ActFits (DrawsAct format low high into) = IsNearInto into
ActFits (PlaceAct places scale) = IsNearRectangle 1 places × (scale ≤ 15)
ActFits (CallAct to) = Unit {0}
ActFits StillAct = Unit {0}
