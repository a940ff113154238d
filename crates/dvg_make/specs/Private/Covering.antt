-- Which entries claim all that others claim, and which knowledge has all of other knowledge. No rule stands here.
use Rattle.std.specs.Prelude.{◌≡◌, ◌≢◌, ℕ, ◌≤◌, List, Contains}
use Rattle.dvg_words.specs.Values.{Window}
use Rattle.dvg_words.specs.Memory.{Rom, rom_word}
use Rattle.dvg_cert.specs.Entry.{IsEntry}
use Rattle.dvg_cert.specs.declared.entry.End.{End}
use Rattle.dvg_cert.specs.declared.entry.End.TheVariants.{Rel, Abs, Lost}
use Rattle.dvg_cert.specs.declared.entry.Entry.{Entry}
use Rattle.dvg_cert.specs.declared.entry.Key.{Key}
use Rattle.dvg_cert.specs.declared.entry.Key.TheVariants.{At, Any}
use Rattle.dvg_items.specs.declared.item.Item.{Item}
use Rattle.dvg_items.specs.declared.item.Kind.TheVariants.{Shape}
use Rattle.dvg_items.specs.declared.known.Known.{Known}
use Rattle.dvg_items.specs.Lit.{IsInside}
use Rattle.dvg_check.specs.Rules.{ShapePlaceKeeps, AllKeep}
use Rattle.dvg_check.specs.declared.fault.Mode.TheVariants.{Bound}
use Rattle.dvg_check.specs.declared.fault.ShapeWhy.{ShapeWhy}
use Rattle.dvg_check.specs.declared.fault.ShapeWhy.TheVariants as shape

-- ---- what is known

-- the first scale is unknown, or it is the second
abbrev pub Loosens : Key → Key → Type 0
Loosens (At n) key = key ≡ At n
Loosens Any key = Unit {0}

-- the first place is lost, or it is the second
abbrev pub LoosensPlace : End → End → Type 0
LoosensPlace (Rel x y) place = place ≡ Rel x y
LoosensPlace (Abs x y) place = place ≡ Abs x y
LoosensPlace Lost place = Unit {0}

-- `weak` knows no more than `strong`, and counts no less
pub record KnowsMore (weak strong : Known) : Type 0 where
  pub place : LoosensPlace weak.place strong.place
  pub scale : Loosens weak.scale strong.scale
  pub words : strong.words ≤ weak.words
  pub depth : strong.depth ≤ weak.depth

-- what an entry claims of its end, as what is known there
abbrev pub known_of : Entry → Known
known_of e = record { place = e.stop; scale = e.scale; words = e.words; depth = e.depth }

-- ---- entries

-- the first entry claims all that the second claims, and counts and lights no more
pub record Refines (f e : Entry) : Type 0 where
  pub known : KnowsMore (known_of e) (known_of f)
  pub lit : IsInside f.lit e.lit

-- the entry has this address, and this key or `any`
pub record Covers (e : Entry) (to : ℕ) (scale : Key) : Type 0 where
  pub addr : e.addr ≡ to
  pub key : Loosens e.key scale

-- the list has such an entry
abbrev pub HasCover : List Entry → ℕ → Key → Type 0
HasCover list addr key = (e : Entry) × Contains list e × Covers e addr key

-- ---- lists

-- the rules of shapes with counts as bounds, but for what is lit at absolute places
abbrev pub HeldKeeps : Rom → List Entry → Entry → List Item → ℕ → ShapeWhy → Type 0
HeldKeeps rom list e earlier p why = (w : Window) → why ≢ shape.OffScreen → ShapePlaceKeeps Bound w rom list e earlier p why

-- each entry is within the limits, and its shape keeps these rules
abbrev pub Upholds : Rom → List Entry → Type 0
Upholds rom list =
    (e : Entry) → Contains list e
    → IsEntry rom.map.rom_first rom.map.rom_last e × AllKeep Shape (rom_word rom) e.addr (HeldKeeps rom list e)
