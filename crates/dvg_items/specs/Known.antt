-- What is known before an item: place, scale, words and depth, from the items before it. All of it is this project's own.
use Rattle.std.specs.Prelude.{ℕ, ◌+◌, max, pos, ◌+ℤ◌, List, [], ◌∷◌, Option, Some, None, unwrap_or}
use Rattle.std.specs.Option.{option_and_then}
use Rattle.dvg_words.specs.Values.{DrawFields}
use Rattle.dvg_words.specs.declared.instruction.Instr.TheVariants.{Draw as Draws, Labs, Halt, Jsrl, Rtsl, Jmpl}
use Rattle.dvg_words.specs.declared.instruction.Instr.{Instr}
use Rattle.dvg_words.specs.Decoding.{word_count}
use Rattle.dvg_words.specs.declared.beam.Point.{Point}
use Rattle.dvg_words.specs.declared.machine.Machine.{Machine}
use Rattle.dvg_words.specs.Beam.{origin, displacement, labs_place}
use Rattle.dvg_cert.specs.declared.entry.Key.{Key}
use Rattle.dvg_cert.specs.declared.entry.Key.TheVariants.{At, Any}
use Rattle.dvg_cert.specs.declared.entry.End.{End}
use Rattle.dvg_cert.specs.declared.entry.End.TheVariants.{Rel, Abs, Lost}
use Rattle.dvg_cert.specs.declared.entry.Entry.{Entry}
use Rattle.dvg_cert.specs.Lookup.{named_entry}
use Rattle.dvg_items.specs.Items.{Kind, Shape, Frame, Item}
pub use Rattle.dvg_items.specs.declared.known.Effect.{Effect}
pub use Rattle.dvg_items.specs.declared.known.Effect.TheVariants.{Sets, Loses, Moves}
pub use Rattle.dvg_items.specs.declared.known.Known.{Known}

-- the context of items: a shape's or a frame's, the machine that runs them, the certificate's entries, and the scale at the start
pub record Context : Type 0 where
  pub kind : Kind
  pub machine : Machine
  pub list : List Entry
  pub scale : Key

-- the context of an entry's shape, which starts at the scale of the entry's key
abbrev pub shape_context : Machine → List Entry → Entry → Context
shape_context machine list e = record { kind = Shape; machine = machine; list = list; scale = e.key }

-- the context of a frame, which starts at unknown scale
abbrev pub frame_context : Machine → List Entry → Context
frame_context machine list = record { kind = Frame; machine = machine; list = list; scale = Any }

-- ---- the entry that an item calls

-- the word address to which a call or a shape's tail jump leads
abbrev pub target : Kind → Instr → Option ℕ
target kind (Draws d) = None
target kind (Labs x y gscale) = None
target kind Halt = None
target kind (Jsrl to) = Some to
target kind Rtsl = None
target Shape (Jmpl to) = Some to
target Frame (Jmpl to) = None

-- the entry that a target and a known scale name
abbrev pub callee_at : List Entry → Option ℕ → Key → Option Entry
callee_at list target scale = option_and_then (λ to. named_entry list to scale) target

-- ---- what an item does to scale, place, words and depth

-- the scale that an instruction sets: a LABS its number, a call or tail jump the scale that its entry leaves; `Any` is unknown
abbrev pub scale_set : Instr → Option Entry → Option Key
scale_set (Labs x y gscale) named = Some (At gscale)
scale_set (Jsrl to) (Some e) = Some e.scale
scale_set (Jmpl to) (Some e) = Some e.scale
scale_set i named = None

-- a draw moves the place at a known scale, and loses it at unknown scale
abbrev pub draw_effect : Machine → DrawFields → Key → Effect
draw_effect machine d (At gscale) = Moves (displacement machine d gscale)
draw_effect machine d Any = Loses

-- what a called shape does to the place, from the entry's end
abbrev pub stop_effect : End → Effect
stop_effect (Rel x y) = Moves (record { x = x; y = y })
stop_effect (Abs x y) = Sets (record { x = x; y = y })
stop_effect Lost = Loses

-- what a call or tail jump does to the place; nothing without an entry
abbrev pub callee_effect : Option Entry → Effect
callee_effect None = Moves origin
callee_effect (Some e) = stop_effect e.stop

-- what an instruction does to the place
abbrev pub effect_of : Machine → Instr → Key → Option Entry → Effect
effect_of machine (Draws d) scale named = draw_effect machine d scale
effect_of machine (Labs x y gscale) scale named = Sets (labs_place machine x y)
effect_of machine Halt scale named = Moves origin
effect_of machine Rtsl scale named = Moves origin
effect_of machine (Jsrl to) scale named = callee_effect named
effect_of machine (Jmpl to) scale named = callee_effect named

-- a place, moved; a place is an `End`: relative to the beam at the call, absolute, or lost
abbrev pub place_moved_by : End → Point → End
place_moved_by (Rel x y) d = Rel (x +ℤ d.x) (y +ℤ d.y)
place_moved_by (Abs x y) d = Abs (x +ℤ d.x) (y +ℤ d.y)
place_moved_by Lost d = Lost

-- the place past an effect
abbrev pub place_past : Effect → End → End
place_past (Sets p) place = Abs p.x p.y
place_past Loses place = Lost
place_past (Moves d) place = place_moved_by place d

-- the words that the called entry claims; 0 without an entry
abbrev pub callee_words : Option Entry → ℕ
callee_words None = 0
callee_words (Some e) = e.words

-- the most return places stored at once under an item: for a call one more than its entry's depth, for a tail jump its entry's
abbrev pub depth_under : Instr → Option Entry → ℕ
depth_under i None = 0
depth_under (Jsrl to) (Some e) = 1 + e.depth
depth_under (Jmpl to) (Some e) = e.depth
depth_under i (Some e) = 0

-- ---- what is known

-- the place at the start: a shape starts where it is called, and a frame anywhere
abbrev pub first_place : Kind → End
first_place Shape = Rel (pos 0) (pos 0)
first_place Frame = Lost

-- what is known before the first item
abbrev pub start : Kind → Key → Known
start kind scale = record { place = first_place kind; scale = scale; words = 0; depth = 0 }

-- what is known past an item that calls this entry: words are added, and the greater depth stays
abbrev pub known_past : Machine → Item → Option Entry → Known → Known
known_past machine i named before =
    record {
      place = place_past (effect_of machine i.instr before.scale named) before.place;
      scale = unwrap_or (scale_set i.instr named) before.scale;
      words = word_count i.format + callee_words named + before.words;
      depth = max (depth_under i.instr named) before.depth;
    }

-- what is known after these items, the latest first
abbrev pub known_before : Context → List Item → Known
known_before c [] = start c.kind c.scale
known_before c (i ∷ earlier) =
    known_past c.machine i (callee_at c.list (target c.kind i.instr) (known_before c earlier).scale) (known_before c earlier)

-- the known place after these items
abbrev pub place_before : Context → List Item → End
place_before c earlier = (known_before c earlier).place

-- the known scale after these items
abbrev pub scale_before : Context → List Item → Key
scale_before c earlier = (known_before c earlier).scale

-- the words of these items and of the entries that they call
abbrev pub words_before : Context → List Item → ℕ
words_before c earlier = (known_before c earlier).words

-- the depth that these items need
abbrev pub depth_before : Context → List Item → ℕ
depth_before c earlier = (known_before c earlier).depth

-- the entry that an instruction calls after these items
abbrev pub callee : Context → List Item → Instr → Option Entry
callee c earlier i = callee_at c.list (target c.kind i) (scale_before c earlier)
