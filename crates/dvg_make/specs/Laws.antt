-- The laws of made lists, over the definitions alone. All but the worked example are for every map and window.
use Rattle.std.specs.Prelude.{◌≡◌, ◌↔◌, ◌≤◌, ℕ, List, [], ◌∷◌, Contains}
use Rattle.dvg_words.specs.Values.{Window}
use Rattle.dvg_words.specs.Memory.{Rom}
use Rattle.dvg_words.specs.declared.beam.Point.{Point}
use Rattle.dvg_cert.specs.declared.entry.Entry.{Entry}
use Rattle.dvg_cert.specs.declared.entry.Key.{Key}
use Rattle.dvg_cert.specs.declared.entry.Key.TheVariants.{At}
use Rattle.dvg_cert.specs.declared.entry.LitBox.{LitBox}
use Rattle.dvg_words.specs.Example.{example_rom}
use Rattle.dvg_check.specs.Example.{example_list}
use Rattle.dvg_items.specs.declared.item.Item.{Item}
use Rattle.dvg_items.specs.Known.{Context, shape_context, place_before}
use Rattle.dvg_items.specs.Seen.{extent}
use Rattle.dvg_items.specs.Lit.{LitInWindow}
use Rattle.dvg_check.specs.Rules.{Good}
use Rattle.dvg_check.specs.declared.fault.Mode.{Mode}
use Rattle.dvg_check.specs.declared.fault.Mode.TheVariants.{Bound, Exact}
use Rattle.dvg_items.specs.Least.{IsLeast}
use Rattle.dvg_make.specs.Made.{EachItem, Made}
use Rattle.dvg_make.specs.Frames.{FramesMade, FrameMade}
use Rattle.dvg_make.specs.Refusals.{Accepts}

-- points have at most one least box
abbrev pub OneLeast : Type 0
OneLeast = (ps : List Point) (a b : LitBox) → IsLeast ps a → IsLeast ps b → a ≡ b

-- a ROM and roots have at most one made list
abbrev pub OneMade : Type 0
OneMade = (rom : Rom) (roots : List (ℕ × Key)) (a b : List Entry) → Made rom roots a → Made rom roots b → a ≡ b

-- a ROM, roots and frames have at most one made list
abbrev pub OneFramesMade : Type 0
OneFramesMade =
    (rom : Rom) (roots : List (ℕ × Key)) (frames : List (List ℕ)) (a b : List Entry)
    → FramesMade rom roots frames a → FramesMade rom roots frames b → a ≡ b

-- what an item lights at an absolute place lies in the window
abbrev pub ItemInWindow : Window → Context → List Item → Item → Type 0
ItemInWindow w c earlier i = LitInWindow w (extent c earlier i.instr) (place_before c earlier)

-- no lit stroke and no called box at an absolute place leaves the window
abbrev pub AllInWindow : Window → Rom → List Entry → Type 0
AllInWindow w rom list = (e : Entry) → Contains list e → EachItem rom e.addr (ItemInWindow w (shape_context rom.machine list e))

-- a made list is good exactly if all that it lights at absolute places lies in the window; then its counts are exact
abbrev pub GoodInWindow : Type 0
GoodInWindow = (rom : Rom) (roots : List (ℕ × Key)) (list : List Entry) (w : Window) → Made rom roots list
    → (Good Bound w rom list ↔ AllInWindow w rom list) × (Good Exact w rom list ↔ AllInWindow w rom list)

-- no certificate does better for a frame than its made list: the made list gets the frame accepted too, with exact counts, no
-- more words and no more depth
abbrev pub NoneBetter : Type 0
NoneBetter =
    (rom : Rom) (words : List ℕ) (w : Window) (mode : Mode) (list made : List Entry) (budget count depth : ℕ)
    → Accepts rom words w mode list budget count depth → FrameMade rom words made
    → (n : ℕ) × (d : ℕ) × (n ≤ count) × (d ≤ depth) × Accepts rom words w Exact made budget n d

-- the stroke at 800 at global scale 0 makes its one entry, and no roots make the empty list
abbrev pub WorkedExampleMade : Type 0
WorkedExampleMade = Made example_rom ((0x800, At 0) ∷ []) example_list × Made example_rom [] []
