-- Draws that light little of what their sizes say. All of it is this project's own.
use Rattle.std.specs.Prelude.{ℕ, Bool, false, not, nat_eq, nat_lt, ◌&&◌, if◌then◌else◌, List, [], ◌∷◌, ◌++◌}
use Rattle.dvg_words.specs.Beam.{effective_scale}
use Rattle.dvg_words.specs.declared.instruction.Instr.{Instr}
use Rattle.dvg_words.specs.declared.instruction.Instr.TheVariants.{Draw as Draws}
use Rattle.dvg_cert.specs.declared.entry.Key.{Key}
use Rattle.dvg_cert.specs.declared.entry.Key.TheVariants.{At}
use Rattle.dvg_items.specs.declared.item.Item.{Item}
use Rattle.dvg_items.specs.Known.{Context, scale_before}

-- a lit draw whose effective scale is over 9, where this scale is known: it hasn't the length that its sizes give (profile)
abbrev pub is_faint : Instr → Key → Bool
is_faint (Draws d) (At scale) = not (nat_eq d.bright 0) && nat_lt 9 (effective_scale d.lscale scale)
is_faint instr scale = false

-- past an item, the word addresses of such draws: its own comes behind, if it is one (profile)
abbrev pub faint_past : List ℕ → Item → Key → List ℕ
faint_past before i scale = if is_faint i.instr scale then before ++ i.at ∷ [] else before

-- the word addresses of such draws among these items, in their order (profile)
abbrev pub faint_among : Context → List Item → List ℕ
faint_among c [] = []
faint_among c (i ∷ earlier) = faint_past (faint_among c earlier) i (scale_before c earlier)
