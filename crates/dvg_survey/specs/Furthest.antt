-- The stroke by which a shape lights as far towards an edge as its entry's box. All of it is this project's own.
use Rattle.std.specs.Prelude.{◌≡◌, ◌≢◌, ℕ, zero, suc, List, [], ◌∷◌, Option, Some, None, IfSome, IfNone, ◌⊎◌}
use Rattle.dvg_words.specs.Memory.{Rom, rom_word}
use Rattle.dvg_words.specs.Decoding.{cell_at}
use Rattle.dvg_words.specs.declared.beam.Point.{Point}
use Rattle.dvg_words.specs.declared.instruction.Cell.TheVariants.{Holds}
use Rattle.dvg_words.specs.declared.instruction.Instr.{Instr}
use Rattle.dvg_words.specs.declared.instruction.Instr.TheVariants.{Draw as Draws}
use Rattle.dvg_cert.specs.declared.entry.Entry.{Entry}
use Rattle.dvg_cert.specs.declared.entry.LitBox.{LitBox}
use Rattle.dvg_cert.specs.declared.entry.LitBox.TheVariants.{Empty, Span}
use Rattle.dvg_items.specs.declared.item.Item.{Item}
use Rattle.dvg_items.specs.declared.item.Kind.TheVariants.{Shape}
use Rattle.dvg_items.specs.declared.seen.Seen.{Seen}
use Rattle.dvg_items.specs.Items.{LeadsTo}
use Rattle.dvg_items.specs.Known.{shape_context}
use Rattle.dvg_items.specs.Least.{lit_points}
use Rattle.dvg_items.specs.Lit.{relative_corners}
use Rattle.dvg_items.specs.Seen.{seen_at}
use Rattle.dvg_check.specs.declared.leaving.Edge.{Edge}
use Rattle.dvg_check.specs.declared.leaving.Edge.TheVariants.{Left, Right, Bottom, Top}
use Rattle.dvg_survey.specs.Calls.{AreAll}

-- the point lies on the side of the box towards this edge
abbrev pub IsOnSide : Edge → LitBox → Point → Type 0
IsOnSide edge Empty p = ⊥
IsOnSide Left (Span x_min x_max y_min y_max) p = p.x ≡ x_min
IsOnSide Right (Span x_min x_max y_min y_max) p = p.x ≡ x_max
IsOnSide Bottom (Span x_min x_max y_min y_max) p = p.y ≡ y_min
IsOnSide Top (Span x_min x_max y_min y_max) p = p.y ≡ y_max

-- one of these points lies on that side
abbrev pub Reaches : Edge → LitBox → List Point → Type 0
Reaches edge box [] = ⊥
Reaches edge box (p ∷ rest) = IsOnSide edge box p ⊎ Reaches edge box rest

-- the item is the first of an entry's shape that lights something on that side of the entry's box (profile)
pub record FirstReaches (rom : Rom) (list : List Entry) (edge : Edge) (e : Entry) (v : Seen) : Type 0 where
  pub earlier : List Item
  pub leads : LeadsTo Shape (rom_word rom) e.addr earlier v.item.at
  pub stands : cell_at (rom_word rom) v.item.at ≡ Holds v.item.format v.item.instr
  pub seen : v ≡ seen_at (shape_context rom.machine list e) earlier v.item
  pub reaches : Reaches edge e.lit (relative_corners v.extent v.place)
  pub first : Reaches edge e.lit (lit_points (shape_context rom.machine list e) earlier) → ⊥

-- no item of the shape does: the box is wider than what the shape lights (profile)
abbrev pub NoneReaches : Rom → List Entry → Edge → Entry → Type 0
NoneReaches rom list edge e =
    (items : List Item) × AreAll Shape (rom_word rom) e.addr items
    × (Reaches edge e.lit (lit_points (shape_context rom.machine list e) items) → ⊥)

-- a lit draw; intensity 0 is dark (DVG documentation)
abbrev pub IsLitDraw : Instr → Type 0
IsLitDraw (Draws d) = d.bright ≢ 0
IsLitDraw i = ⊥

-- the stroke found from an entry, over so many shapes at most: the first item that reaches as far is a lit draw, and it is that one, or
-- it calls a shape, and the stroke is found there; none where no item does (profile)
abbrev pub FindsStroke : ℕ → Rom → List Entry → Edge → Entry → Option Item → Type 0
FindsStroke zero rom list edge e found = found ≡ None
FindsStroke (suc most) rom list edge e found =
    (NoneReaches rom list edge e × (found ≡ None))
    ⊎ ((v : Seen) × FirstReaches rom list edge e v
    × IfSome v.callee (λ called. FindsStroke most rom list edge called found)
    × IfNone v.callee (IsLitDraw v.item.instr × (found ≡ Some v.item)))
