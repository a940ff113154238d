-- Which items light past the screen; within -1024 to 2047 a board clips them. All of it is this project's own.
use Rattle.std.specs.Prelude.{◌≡◌, ℕ, List, [], ◌∷◌, ◌++◌, ◌⊎◌}
use Rattle.dvg_words.specs.Beam.{screen}
use Rattle.dvg_cert.specs.declared.entry.End.{End}
use Rattle.dvg_items.specs.declared.item.Item.{Item}
use Rattle.dvg_items.specs.declared.lit.LitExtent.{LitExtent}
use Rattle.dvg_items.specs.Known.{Context, place_before}
use Rattle.dvg_items.specs.Seen.{extent}
use Rattle.dvg_items.specs.Lit.{LitInWindow}

-- past an item, the word addresses of those clipped: its own comes behind, if a corner of what it lights at an absolute place is off
-- the screen (profile)
abbrev pub ClippedPast : List ℕ → ℕ → LitExtent → End → List ℕ → Type 0
ClippedPast before at lit place after =
    (LitInWindow screen lit place × (after ≡ before)) ⊎ ((LitInWindow screen lit place → ⊥) × (after ≡ before ++ at ∷ []))

-- the word addresses of those clipped among these items, in their order (profile)
abbrev pub AreClippedAmong : Context → List Item → List ℕ → Type 0
AreClippedAmong c [] clipped = clipped ≡ []
AreClippedAmong c (i ∷ earlier) clipped = (before : List ℕ) × AreClippedAmong c earlier before
    × ClippedPast before i.at (extent c earlier i.instr) (place_before c earlier) clipped
