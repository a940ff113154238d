-- What a called shape does, as a stretch of a run.
use Rattle.std.specs.Prelude.{◌≡◌, ℕ, ◌+◌, ◌≤◌, ◌⊎◌, max, List, ◌∷◌, ◌++◌, length, ◌+ℤ◌}
use Rattle.std.specs.List.{AllByRecursion}
use Rattle.dvg_words.specs.Values.{Window}
use Rattle.dvg_words.specs.Memory.{Memory, InRom}
use Rattle.dvg_words.specs.declared.beam.Point.{Point}
use Rattle.dvg_words.specs.Beam.{shift, InWindow}
use Rattle.dvg_words.specs.Generator.{Stroke, State, Running, Reached}
use Rattle.dvg_cert.specs.declared.entry.Key.{Key}
use Rattle.dvg_cert.specs.declared.entry.Key.TheVariants.{At, Any}
use Rattle.dvg_cert.specs.declared.entry.End.{End}
use Rattle.dvg_cert.specs.declared.entry.End.TheVariants.{Rel, Abs, Lost}
use Rattle.dvg_cert.specs.declared.entry.LitBox.{LitBox}
use Rattle.dvg_cert.specs.declared.entry.LitBox.TheVariants.{Empty, Span}
use Rattle.dvg_cert.specs.declared.entry.Entry.{Entry}
use Rattle.dvg_items.specs.Lit.{InBox}
use Rattle.dvg_check.specs.Rules.{Mode, Bound, Exact}
use Rattle.dvg_check.specs.Safety.{Ends}

-- the count is at most the claimed one; in the mode Exact it is the claimed one
abbrev pub Counts : Mode → ℕ → ℕ → Type 0
Counts Bound n claimed = n ≤ claimed
Counts Exact n claimed = n ≡ claimed

-- A run leads from one running state to another. It takes at most `most` steps and fetches at most `most` words, in the mode Exact
-- exactly `most` words. Each word fetched is `Fetched`, each stroke drawn is `Lit`, and the most return places stored at once are
-- at most the greater of those before and `deep`, in the mode Exact just that. A halt or a fault has no step, so there is none on
-- the way.
pub record Stretch
    (mode : Mode) (m : Memory) (Fetched : ℕ → Type 0) (Lit : Stroke → Type 0) (most deep : ℕ) (from to : State) : Type 0 where
  pub steps : ℕ
  pub reached : Reached m steps (Running from) (Running to)
  pub within : steps ≤ most
  pub words : List ℕ
  pub fetched : to.fetched ≡ words ++ from.fetched
  pub few : Counts mode (length words) most
  pub mapped : AllByRecursion Fetched words
  pub strokes : List Stroke
  pub drew : to.strokes ≡ strokes ++ from.strokes
  pub lit : AllByRecursion Lit strokes
  pub stored : Counts mode to.max_stack (max from.max_stack deep)

-- the scale is the known one; any scale fits an unknown one
abbrev pub ScaleFits : Key → ℕ → Type 0
ScaleFits (At known) scale = scale ≡ known
ScaleFits Any scale = Unit {0}

-- the place `to` at the return is as claimed, for a call at the place `from`
abbrev pub PlaceFits : End → Point → Point → Type 0
PlaceFits (Rel x y) from to = to ≡ shift from (record { x = x; y = y })
PlaceFits (Abs x y) from to = to ≡ record { x = x; y = y }
PlaceFits Lost from to = Unit {0}

-- a box, moved from the origin to a place
abbrev pub box_at : LitBox → Point → LitBox
box_at Empty p = Empty
box_at (Span x_min x_max y_min y_max) p = Span (p.x +ℤ x_min) (p.x +ℤ x_max) (p.y +ℤ y_min) (p.y +ℤ y_max)

-- both ends of the stroke are in the window, or both are in the box at the place `base`
abbrev pub LitFits : Window → LitBox → Point → Stroke → Type 0
LitFits w box base stroke = Ends (InWindow w) stroke ⊎ Ends (InBox (box_at box base)) stroke

-- a run leads from a state at a shape's first word to the state just past its return, as the entry claims
pub record Returned (mode : Mode) (m : Memory) (w : Window) (e : Entry) (back : ℕ) (rest : List ℕ) (from to : State) : Type 0 where
  pub stretch : Stretch mode m (InRom m.rom.map) (LitFits w e.lit from.place) e.words (length from.return_stack + e.depth) from to
  pub some : 1 ≤ stretch.steps
  pub pc : to.pc ≡ back
  pub return_stack : to.return_stack ≡ rest
  pub place : PlaceFits e.stop from.place to.place
  pub scale : ScaleFits e.scale to.scale

-- each call that an entry allows returns as the entry claims
abbrev pub Behaves : Mode → Memory → Window → Entry → Type 0
Behaves mode m w e =
    (s : State) (back : ℕ) (rest : List ℕ)
    → length s.return_stack ≤ s.max_stack
    → s.pc ≡ e.addr
    → ScaleFits e.key s.scale
    → s.return_stack ≡ back ∷ rest
    → length s.return_stack + e.depth ≤ 4
    → (t : State) × Returned mode m w e back rest s t
