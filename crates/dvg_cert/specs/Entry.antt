-- What an entry of a certificate may say.
use Rattle.std.specs.Prelude.{ℕ, ◌<◌, ◌≤◌, ℤ, neg_ℤ, ◌≤ℤ◌}
use Rattle.dvg_cert.specs.Limits.{ADDRESS_END, MOST_DEPTH, MOST_WORDS, MOST_NUMBER}
pub use Rattle.dvg_cert.specs.declared.entry.Key.{Key}
pub use Rattle.dvg_cert.specs.declared.entry.Key.TheVariants.{At, Any}
pub use Rattle.dvg_cert.specs.declared.entry.End.{End}
pub use Rattle.dvg_cert.specs.declared.entry.End.TheVariants.{Rel, Abs, Lost}
pub use Rattle.dvg_cert.specs.declared.entry.LitBox.{LitBox}
pub use Rattle.dvg_cert.specs.declared.entry.LitBox.TheVariants.{Empty, Span}
pub use Rattle.dvg_cert.specs.declared.entry.Entry.{Entry}

-- the numbers of ends and boxes, in units of 1/1024 of a screen place (profile)
abbrev pub IsNumber : ℤ → Type 0
IsNumber z = (neg_ℤ MOST_NUMBER ≤ℤ z) × (z ≤ℤ MOST_NUMBER)

-- a global scale has four bits (DVG documentation)
abbrev pub IsKey : Key → Type 0
IsKey (At n) = n ≤ 15
IsKey Any = Unit {0}

-- an end's coordinates are numbers of a certificate
abbrev pub IsEnd : End → Type 0
IsEnd (Rel x y) = IsNumber x × IsNumber y
IsEnd (Abs x y) = IsNumber x × IsNumber y
IsEnd Lost = Unit {0}

-- a least and a greatest coordinate
abbrev pub IsRange : ℤ → ℤ → Type 0
IsRange low high = IsNumber low × IsNumber high × (low ≤ℤ high)

-- a box has ranges on both axes
abbrev pub IsBox : LitBox → Type 0
IsBox Empty = Unit {0}
IsBox (Span x_min x_max y_min y_max) = IsRange x_min x_max × IsRange y_min y_max

-- an entry for a ROM from word address `first` to `last` (profile)
pub record IsEntry (first last : ℕ) (e : Entry) : Type 0 where
  pub addr_low : first ≤ e.addr
  pub addr_high : e.addr ≤ last
  pub key : IsKey e.key
  pub stop : IsEnd e.stop
  pub lit : IsBox e.lit
  pub depth : e.depth ≤ MOST_DEPTH
  pub words_low : 1 ≤ e.words
  pub words_high : e.words ≤ MOST_WORDS
  pub scale : IsKey e.scale

-- what an entry claims is within the limits, wherever its ROM lies
pub record IsClaim (e : Entry) : Type 0 where
  pub key : IsKey e.key
  pub stop : IsEnd e.stop
  pub lit : IsBox e.lit
  pub depth : e.depth ≤ MOST_DEPTH
  pub words : e.words ≤ MOST_WORDS
  pub scale : IsKey e.scale
  pub addr : e.addr < ADDRESS_END
