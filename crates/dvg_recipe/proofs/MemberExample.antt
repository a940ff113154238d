-- The worked recipe of all kinds of pieces: the frame that belongs, item by item, and why the others don't.
use Rattle.dvg_recipe.proofs.Common.{◌≡◌, ◌≤◌, ◌+◌, ◌∙◌, ℕ, zero, suc, List, [], ◌∷◌, length, refl, sym, ap, subst, inl, inr, ⊎_elim, arith, cases_lt, Contains, LeadsTo}
use Rattle.dvg_check.proofs.Common.{ints, pos, negsuc, Item, Board, Short, Long, Holds, Halt, Labs, Jsrl, Draws, Frame, frame_word, Source}
unfoldable use Rattle.dvg_check.proofs.Common.{cell_at, instruction_of}
use Rattle.dvg_items.proofs.Leading.{same_lead, too_long}
use Rattle.dvg_recipe.specs.Recipes.{Leading, Recipe, Area, Piece, Row, Either', AddsRow, Spells, Takes}
use Rattle.dvg_recipe.specs.Members.{IsMember, LeadsInto}
use Rattle.dvg_words.specs.Memory.{Rom}
use Rattle.dvg_recipe.specs.Private.KnownPlaces.{ItemsOver}
use Rattle.dvg_recipe.specs.Private.Indices.{Leads, PieceLeads, RowLeads, PartLeads, TimesOver, ListStarts, RecipeLeads}
use Rattle.dvg_recipe.specs.Examples.{VecOf, call_piece, place_piece, stroke_piece, dot_piece, ExampleParts, example_recipe, member_words, member_items, past_place_words, third_turn_words, WorkedMembers}
use Rattle.dvg_recipe.proofs.Fronts.{recipe_back}

-- ---- the items of a frame

-- items that lead to a HALT are those by which the frame belongs to a recipe
pub one_way : (words : List ℕ) (items : List Item) (at : ℕ) → LeadsTo Frame (frame_word Board words) 0 items at
    → cell_at (frame_word Board words) at ≡ Holds Short Halt → (rom : Rom) (recipe : Recipe) → (b : IsMember rom recipe words)
    → b.items ≡ items
one_way words items at leads halts rom recipe b =
    let source : Source = frame_word Board words in
    let theirs : Item = record { at = b.at; format = b.format; instr = Halt } in
    let ours : Item = record { at = at; format = Short; instr = Halt } in
    ⊎_elim (λ less. absurd (too_long Frame source 0 b.items theirs b.leads b.halts refl items at leads less))
    (λ le. ⊎_elim (λ more. absurd (too_long Frame source 0 items ours leads halts refl b.items b.at b.leads more))
    (λ ge. (same_lead Frame source 0 b.items items b.at at b.leads leads (omega (arith, le, ge))).items)
    (cases_lt (length items) (length b.items)))
    (cases_lt (length b.items) (length items))

-- ---- the frame that belongs

abbrev place_item : ℕ → Item
place_item y = record { at = 0; format = Long; instr = Labs 100 y 2 }

abbrev call_item : Item
call_item = record { at = 2; format = Short; instr = Jsrl 0x803 }

abbrev stroke_item : Item
stroke_item =
    record { at = 3; format = Long; instr = Draws (record { dx = negsuc 2; dy = pos 2; lscale = 9; bright = 7 }) }

abbrev dot_item : ℕ → Item
dot_item at = record { at = at; format = Short; instr = Draws (record { dx = pos 0; dy = pos 0; lscale = 2; bright = 15 }) }

member_leads : LeadsTo Frame (frame_word Board member_words) 0 member_items 6
unfolding cell_at instruction_of
member_leads = ((((refl, refl, refl), refl, refl), refl, refl), refl, refl)

member_halts : cell_at (frame_word Board member_words) 6 ≡ Holds Short Halt
unfolding cell_at instruction_of
member_halts = refl

place_taken : Takes place_piece.kind Long (Labs 100 0xFF8 2)
place_taken = (
  record { low = omega (arith, ints); high = omega (arith, ints) },
  record { low = omega (arith, ints); high = omega (arith, ints) },
  refl,
)

stroke_taken : Takes stroke_piece.kind stroke_item.format stroke_item.instr
stroke_taken = (
  refl,
  (
    refl,
    record { low = omega (arith, ints); high = omega (arith, ints) },
    record { low = omega (arith, ints); high = omega (arith, ints) },
    record { low = omega (arith, ints); high = omega (arith, ints) },
  ),
)

dot_taken : Takes dot_piece.kind Short (dot_item 5).instr
unfolding instruction_of
dot_taken = refl

-- a vector of pieces adds what they add
pub row_of : (pieces : List Piece) (v : VecOf pieces) (into : Leading) (before after : List Item) → AddsRow pieces into before after
    → Spells (Row v.0) into before after
row_of pieces v into before after h = subst (λ (l : List Piece). AddsRow l into before after) (sym v.1) h

module _ (rom : Rom) (p : ExampleParts) where
  call_taken : Takes (call_piece p.targets.0).kind Short (Jsrl 0x803)
  call_taken = subst (λ (l : List ℕ). Contains l 0x803) (sym p.targets.1) (1, omega arith, refl)

  start_spelled : Spells (Row p.start.0) (LeadsInto rom) [] (call_item ∷ place_item 0xFF8 ∷ [])
  start_spelled =
      row_of (place_piece ∷ call_piece p.targets.0 ∷ []) p.start (LeadsInto rom) [] (call_item ∷ place_item 0xFF8 ∷ []) (
        place_item 0xFF8 ∷ [],
        record { item = place_item 0xFF8; one_more = refl; taken = place_taken; arrives = tt },
        (call_item ∷ place_item 0xFF8 ∷ [], record { item = call_item; one_more = refl; taken = call_taken; arrives = tt }, refl),
      )

  stroke_spelled : (before : List Item) → Spells (Row p.stroke.0) (LeadsInto rom) before (stroke_item ∷ before)
  stroke_spelled before =
      row_of (stroke_piece ∷ []) p.stroke (LeadsInto rom) before (stroke_item ∷ before)
      (stroke_item ∷ before, record { item = stroke_item; one_more = refl; taken = stroke_taken; arrives = tt }, refl)

  dot_spelled : (before : List Item) → Spells (Row p.dot.0) (LeadsInto rom) before (dot_item 5 ∷ before)
  dot_spelled before =
      row_of (dot_piece ∷ []) p.dot (LeadsInto rom) before (dot_item 5 ∷ before)
      (dot_item 5 ∷ before, record { item = dot_item 5; one_more = refl; taken = dot_taken; arrives = tt }, refl)

  belongs : IsMember rom (example_recipe p) member_words
  belongs =
      let two : List Item = call_item ∷ place_item 0xFF8 ∷ [] in
      record {
        frame = record { some = omega arith; few = omega arith };
        items = member_items;
        at = 6;
        format = Short;
        leads = member_leads;
        halts = member_halts;
        spelled = record {
          area = record { first = 0; last = 0x01F };
          listed = (0, omega arith, refl);
          start = [];
          begins = refl;
          between = member_items;
          spelled = (
            two,
            start_spelled,
            (
              2,
              omega arith,
              omega arith,
              (
                stroke_item ∷ two,
                inl (stroke_spelled two),
                (member_items, inr (dot_spelled (stroke_item ∷ two)), refl),
              ),
            ),
          );
          jumped = refl;
        };
      }

-- ---- the frames that don't

-- the one area listed is the first
pub only_area : (a b : Area) → Contains (a ∷ []) b → a ≡ b
only_area a b (zero, lt, is) = is
only_area a b (suc k, lt, is) = absurd (omega (arith, lt))

-- a list of a recipe whose one area is at 000 begins with the frame's first item
pub starts_at : (recipe : Recipe) (area : Area) (items : ItemsOver) (j : ℕ) → recipe.lists ≡ area ∷ [] → area.first ≡ 0
    → (h : RecipeLeads recipe items j) → h.start ≡ 0
starts_at recipe area items j one first h =
    let same : area ≡ h.starts.area =
    only_area area h.starts.area (subst (λ (l : List Area). Contains l h.starts.area) one h.starts.listed) in
    subst (λ n. ListStarts n items h.start) (sym (ap (λ (a : Area). a.first) same) ∙ first) h.starts.starts

module _ (p : ExampleParts) (items : ItemsOver) where
  -- where a row of one piece leads
  one_on : (piece : Piece) (v : VecOf (piece ∷ [])) (i j : ℕ) → PartLeads (Row v.0) items i j → j ≡ suc i
  one_on piece v i j h = let r = subst (λ (l : List Piece). RowLeads l items i j) v.1 h in r.2 ∙ r.1.next

  abbrev turn : Leads
  turn i j = PartLeads (Either' (p.boxes 3) (Row p.stroke.0) (p.boxes 4) (Row p.dot.0)) items i j

  turn_on : (i j : ℕ) → turn i j → j ≡ suc i
  turn_on i j h = ⊎_elim (one_on stroke_piece p.stroke i j) (one_on dot_piece p.dot i j) h

  turns_on : (n i j : ℕ) → TimesOver n turn i j → j ≡ n + i
  turns_on zero i j h = omega (arith, h)
  turns_on (suc n) i j (k, first, rest) = omega (arith, (turn_on i k first), (turns_on n k j rest))

  -- the first item is a place of the range, and at most two items stand behind the first two
  record IsShort (j : ℕ) : Type 0 where
    placed : PieceLeads place_piece items 0 1
    few : j ≤ 4

  is_short : (j : ℕ) → RecipeLeads (example_recipe p) items j → IsShort j
  is_short j h =
      let start = starts_at (example_recipe p) (record { first = 0; last = 0x01F }) items j refl refl h in
      let row = subst (λ (l : List Piece). RowLeads l items h.start h.spelled.1.0) p.start.1 h.spelled.1.1 in
      let turns = h.spelled.1.2 in
      let more = turns_on turns.0 h.spelled.1.0 h.spelled.0 turns.3 in
      let first : row.0 ≡ 1 = omega (arith, start, row.1.next) in
      record {
        placed = subst (λ n. PieceLeads place_piece items n 1) start (subst (λ n. PieceLeads place_piece items h.start n) first row.1);
        few = omega (arith, start, row.1.next, row.2.1.next, row.2.2, more, turns.2, h.spelled.2);
      }

past_place_leads : LeadsTo Frame (frame_word Board past_place_words) 0 (call_item ∷ place_item 0xFF7 ∷ []) 3
unfolding cell_at instruction_of
past_place_leads = ((refl, refl, refl), refl, refl)

past_place_halts : cell_at (frame_word Board past_place_words) 3 ≡ Holds Short Halt
unfolding cell_at instruction_of
past_place_halts = refl

third_turn_leads : LeadsTo Frame (frame_word Board third_turn_words) 0
    (dot_item 5 ∷ dot_item 4 ∷ dot_item 3 ∷ call_item ∷ place_item 0xFF8 ∷ []) 6
unfolding cell_at instruction_of
third_turn_leads = (((((refl, refl, refl), refl, refl), refl, refl), refl, refl), refl, refl)

third_turn_halts : cell_at (frame_word Board third_turn_words) 6 ≡ Holds Short Halt
unfolding cell_at instruction_of
third_turn_halts = refl

module _ (rom : Rom) (p : ExampleParts) where
  past_place : IsMember rom (example_recipe p) past_place_words → ⊥
  past_place b =
      let items : ItemsOver = record { rom = rom; items = place_item 0xFF7 ∷ call_item ∷ [] } in
      let same = one_way past_place_words (call_item ∷ place_item 0xFF7 ∷ []) 3 past_place_leads past_place_halts rom (example_recipe p)
      b in
      let placed = (is_short p items 2 (recipe_back items (example_recipe p) b.items 2 (omega arith) same b.spelled)).placed in
      let taken = subst (λ (i : Item). Takes place_piece.kind i.format i.instr) (sym placed.there) placed.taken in
      omega (arith, ints, taken.1.low)

  third_turn : IsMember rom (example_recipe p) third_turn_words → ⊥
  third_turn b =
      let items : ItemsOver = record { rom = rom; items = place_item 0xFF8 ∷ call_item ∷ dot_item 3 ∷ dot_item 4 ∷ dot_item 5 ∷ [] } in
      let same = one_way third_turn_words (dot_item 5 ∷ dot_item 4 ∷ dot_item 3 ∷ call_item ∷ place_item 0xFF8 ∷ []) 6 third_turn_leads
      third_turn_halts rom (example_recipe p) b in
      omega (arith, (is_short p items 5 (recipe_back items (example_recipe p) b.items 5 (omega arith) same b.spelled)).few)

-- ---- all

pub worked_members : WorkedMembers
unfolding belongs
worked_members rom p = record { belongs = belongs rom p; items = refl; past_place = past_place rom p; third_turn = third_turn rom p }
