-- What a recipe spells where draws lead to where they have to by one account, it spells by each that says no more.
use Rattle.dvg_recipe.proofs.Common.{ℕ, zero, suc, List, [], ◌∷◌, Option, Some, None, IfSome, inl, inr}
use Rattle.dvg_items.specs.declared.item.Item.{Item}
use Rattle.dvg_recipe.specs.Recipes.{Leading, Arrives, PieceKind, PlaceSpan, Place, Call, Draw, Fixed, Piece, Part, Row, Then', Either', Repeat', Jump, Recipe, AddsPiece, AddsRow, Times, Spells, SpellsJumps, SpellsList, IsFrameOf}

module _ (one other : Leading) (says : (to : PlaceSpan) (items : List Item) → one to items → other to items) where
  into_as : (to : Option PlaceSpan) (items : List Item) → IfSome to (λ span. one span items) → IfSome to (λ span. other span items)
  into_as None items h = tt
  into_as (Some span) items h = says span items h

  arrives_as : (kind : PieceKind) (items : List Item) → Arrives one kind items → Arrives other kind items
  arrives_as (Draw r) items h = into_as r.to items h
  arrives_as (Place r) items h = tt
  arrives_as (Call targets) items h = tt
  arrives_as (Fixed first second) items h = tt

  piece_as : (piece : Piece) (before after : List Item) → AddsPiece piece one before after → AddsPiece piece other before after
  piece_as piece before after a =
      record { item = a.item; one_more = a.one_more; taken = a.taken; arrives = arrives_as piece.kind after a.arrives }

  row_as : (row : List Piece) (before after : List Item) → AddsRow row one before after → AddsRow row other before after
  row_as [] before after h = h
  row_as (piece ∷ row) before after (between, first, rest) = (between, piece_as piece before between first, row_as row between after rest)

  times_as : (R S : List Item → List Item → Type 0) → ((before after : List Item) → R before after → S before after) → (n : ℕ)
      (before after : List Item) → Times n R before after → Times n S before after
  times_as R S each zero before after h = h
  times_as R S each (suc n) before after (between, first, rest) =
      (between, each before between first, times_as R S each n between after rest)

  part_as : (part : Part) (before after : List Item) → Spells part one before after → Spells part other before after
  part_as (Row row) before after h = row_as row.items before after h
  part_as (Then' p a q b) before after (between, first, rest) = (between, part_as a before between first, part_as b between after rest)
  part_as (Either' p a q b) before after (inl h) = inl (part_as a before after h)
  part_as (Either' p a q b) before after (inr h) = inr (part_as b before after h)
  part_as (Repeat' least most p body) before after (n, low, few, h) =
      (n, low, few, times_as (Spells body one) (Spells body other) (part_as body) n before after h)

  jumps_as : (jumps : List Jump) (before after : List Item) → SpellsJumps jumps one before after → SpellsJumps jumps other before after
  jumps_as [] before after h = h
  jumps_as (jump ∷ jumps) before after (there, between, jumped, spelled, rest) =
      (there, between, jumped, part_as jump.body there between spelled, jumps_as jumps between after rest)

  pub list_as : (recipe : Recipe) (items : List Item) → SpellsList one recipe items → SpellsList other recipe items
  list_as recipe items s = record {
    area = s.area;
    listed = s.listed;
    start = s.start;
    begins = s.begins;
    between = s.between;
    spelled = part_as recipe.body s.start s.between s.spelled;
    jumped = jumps_as recipe.jumps s.between items s.jumped;
  }

  pub frame_as : (recipe : Recipe) (words : List ℕ) → IsFrameOf one recipe words → IsFrameOf other recipe words
  frame_as recipe words b = record {
    frame = b.frame;
    items = b.items;
    at = b.at;
    format = b.format;
    leads = b.leads;
    halts = b.halts;
    spelled = list_as recipe b.items b.spelled;
  }
