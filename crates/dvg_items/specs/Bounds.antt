-- Limits for the code's numbers: no rule stands here. An item moves the place by at most 2^41, adds at most two words and an
-- entry's words, and stands at least one word past the item before. So no sum over a shape or a frame leaves 64 bits, and no sum
-- of words leaves 32.
use Rattle.std.specs.Prelude.{ℕ, ◌+◌, ◌*◌, ◌^◌, ◌<◌, ◌≤◌, List, IfSome}
use Rattle.dvg_words.specs.declared.map.TheConstants.{ADDRESS_END}
use Rattle.dvg_words.specs.Decoding.{InstrFits}
use Rattle.dvg_words.specs.declared.beam.Point.{Point}
use Rattle.dvg_words.specs.Beam.{IsWithin}
use Rattle.dvg_cert.specs.Entry.{IsKey, IsClaim}
use Rattle.dvg_cert.specs.Order.{IsCertificate}
use Rattle.dvg_words.specs.Values.{MemoryMap}
use Rattle.dvg_cert.specs.declared.entry.End.{End}
use Rattle.dvg_cert.specs.declared.entry.End.TheVariants.{Rel, Abs, Lost}
use Rattle.dvg_cert.specs.declared.entry.LitBox.{LitBox}
use Rattle.dvg_cert.specs.declared.entry.LitBox.TheVariants.{Empty, Span}
use Rattle.dvg_cert.specs.declared.entry.Entry.{Entry}
use Rattle.dvg_cert.specs.declared.limits.TheConstants.{MOST_WORDS}
use Rattle.dvg_items.specs.Known.{Effect, Sets, Loses, Moves}
use Rattle.dvg_items.specs.Lit.{LitExtent, Nothing, Between, Anywhere}
use Rattle.dvg_items.specs.Seen.{Seen}
use Rattle.dvg_items.specs.Cursor.{Cursor, Step, Onward, Last}

-- ---- entries

-- the list is a certificate's, for a ROM at some map
abbrev pub IsSomeCertificate : List Entry → Type 0
IsSomeCertificate list = (map : MemoryMap) × IsCertificate map list

-- ---- places

-- the point is no further from 0 than n steps of this length reach
abbrev pub IsReached : ℕ → ℕ → Point → Type 0
IsReached step n p = IsWithin (step * n) p

-- a place is no further from 0 than n steps reach; a lost place has no numbers
abbrev pub IsReachedPlace : ℕ → ℕ → End → Type 0
IsReachedPlace step n (Rel x y) = IsReached step n (record { x = x; y = y })
IsReachedPlace step n (Abs x y) = IsReached step n (record { x = x; y = y })
IsReachedPlace step n Lost = Unit {0}

-- the point that an effect sets or moves by is no further from 0 than n steps reach
abbrev pub IsReachedEffect : ℕ → ℕ → Effect → Type 0
IsReachedEffect step n (Sets p) = IsReached step n p
IsReachedEffect step n Loses = Unit {0}
IsReachedEffect step n (Moves d) = IsReached step n d

-- the corners of what is lit are no further from 0 than n steps reach
abbrev pub IsReachedExtent : ℕ → ℕ → LitExtent → Type 0
IsReachedExtent step n Nothing = Unit {0}
IsReachedExtent step n (Between a b) = IsReached step n a × IsReached step n b
IsReachedExtent step n Anywhere = Unit {0}

-- the corners of a box are no further from 0 than n steps reach
abbrev pub IsReachedBox : ℕ → ℕ → LitBox → Type 0
IsReachedBox step n Empty = Unit {0}
IsReachedBox step n (Span x_min x_max y_min y_max) =
    IsReached step n (record { x = x_min; y = y_min }) × IsReached step n (record { x = x_max; y = y_max })

-- ---- what items reach

-- no item moves the place further
abbrev pub ITEM_REACH : ℕ
ITEM_REACH = 2 ^ 41

-- no further from 0 than n items can move it
abbrev pub IsNear : ℕ → Point → Type 0
IsNear = IsReached ITEM_REACH

-- the same of a known place
abbrev pub IsNearPlace : ℕ → End → Type 0
IsNearPlace = IsReachedPlace ITEM_REACH

-- the same of a box
abbrev pub IsNearBox : ℕ → LitBox → Type 0
IsNearBox = IsReachedBox ITEM_REACH

-- no further from 0 than one item can move the place
abbrev pub IsNearEffect : Effect → Type 0
IsNearEffect = IsReachedEffect ITEM_REACH 1

-- the same of the corners of what is lit
abbrev pub IsNearExtent : LitExtent → Type 0
IsNearExtent = IsReachedExtent ITEM_REACH 1

-- the words are no more than n items can add
abbrev pub IsFewWords : ℕ → ℕ → Type 0
IsFewWords n words = words ≤ (MOST_WORDS + 2) * n

-- ---- cursors, and what the rules see there

-- the numbers of a cursor are within the limits
pub record IsSoundCursor (c : Cursor) : Type 0 where
  pub at : c.at ≤ ADDRESS_END + 2
  pub place : IsNearPlace c.at c.known.place
  pub scale : IsKey c.known.scale
  pub words : IsFewWords c.at c.known.words
  pub depth : c.known.depth ≤ 4

-- the numbers of what the rules see are within the limits
pub record IsSoundSeen (v : Seen) : Type 0 where
  pub at : v.item.at < ADDRESS_END
  pub fields : InstrFits v.item.instr
  pub place : IsNearPlace ADDRESS_END v.place
  pub extent : IsNearExtent v.extent
  pub callee : IfSome v.callee IsClaim
  pub place_after : IsNearPlace (v.item.at + 1) v.after.place
  pub scale_after : IsKey v.after.scale
  pub words_after : IsFewWords (v.item.at + 1) v.after.words
  pub depth_after : v.after.depth ≤ 4

-- if the step leads on, the numbers of its cursor are within the limits
abbrev pub IsSoundStep : Step → Type 0
IsSoundStep (Onward c) = IsSoundCursor c
IsSoundStep (Last known) = Unit {0}
