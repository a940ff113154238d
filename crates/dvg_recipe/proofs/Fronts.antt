-- Indices and the items before them.
use Rattle.dvg_recipe.proofs.Common.{◌≡◌, ◌<◌, ◌≤◌, ◌∙◌, ℕ, zero, suc, List, [], ◌∷◌, length, take, get_or, reverse, reverse-append, take-suc, refl, sym, ap, subst, inl, inr, arith, common_steps}
use Rattle.dvg_items.specs.declared.item.Item.{Item}
use Rattle.dvg_recipe.specs.Private.KnownPlaces.{ItemsOver}
use Rattle.dvg_recipe.specs.Recipes.{Piece, Part, Jump, Recipe, Row, Then', Either', Repeat', Arrives, AddsPiece, AddsRow, AddsJump, Times, Spells, SpellsJumps, BeginsAt, SpellsList}
use Rattle.dvg_recipe.specs.Members.{LeadsInto}
use Rattle.dvg_recipe.specs.Private.Indices.{Leads, PieceLeads, RowLeads, PartLeads, TimesOver, JumpLeads, JumpsLead, ListStarts, RecipeLeads}

cons_same : (x y : Item) (xs ys : List Item) → x ∷ xs ≡ y ∷ ys → (x ≡ y) × (xs ≡ ys)
cons_same x y xs ys is = grind (arith)

module _ (over : ItemsOver) where
  abbrev items : List Item
  items = over.items

  -- the items before an index, the latest first
  abbrev pub front : ℕ → List Item
  front i = reverse (take i items)

  front_next : (i : ℕ) (d : Item) → i < length items → front (suc i) ≡ get_or items i d ∷ front i
  front_next i d lt = ap (λ (l : List Item). reverse l) (take-suc items i d lt) ∙ reverse-append (take i items) (get_or items i d ∷ [])

  length_front : (i : ℕ) → i ≤ length items → length (front i) ≡ i
  length_front i le = grind (arith, common_steps)

  -- where one more item leads
  record Before (item : Item) (before : List Item) (j : ℕ) : Type 0 where
    i : ℕ
    less : i < length items
    next : j ≡ suc i
    there : get_or items i item ≡ item
    is : before ≡ front i

  one_back : (item : Item) (before : List Item) (j : ℕ) → j ≤ length items → item ∷ before ≡ front j → Before item before j
  one_back item before zero le is = absurd (omega (arith, (ap (λ (l : List Item). length l) is)))
  one_back item before (suc i) le is =
      let both = cons_same item (get_or items i item) before (front i) (is ∙ front_next i item le) in
      record { i = i; less = le; next = refl; there = sym both.0; is = both.1 }

  -- ---- from indices to items

  piece_there : (piece : Piece) (i j : ℕ) → PieceLeads piece over i j → AddsPiece piece (LeadsInto over.rom) (front i) (front j)
  piece_there piece i j h =
      record {
        item = h.item;
        one_more = ap front h.next ∙ front_next i h.item h.within ∙ ap (λ (x : Item). x ∷ front i) h.there;
        taken =
            h.taken;
        arrives = h.arrives;
      }

  row_there : (row : List Piece) (i j : ℕ) → RowLeads row over i j → AddsRow row (LeadsInto over.rom) (front i) (front j)
  row_there [] i j h = ap front h
  row_there (piece ∷ row) i j (k, first, rest) = (front k, piece_there piece i k first, row_there row k j rest)

  times_there : (n : ℕ) (R : Leads) (Adds : List Item → List Item → Type 0) → ((i j : ℕ) → R i j → Adds (front i) (front j)) → (i j : ℕ)
      → TimesOver n R i j → Times n Adds (front i) (front j)
  times_there zero R Adds f i j h = ap front h
  times_there (suc n) R Adds f i j (k, first, rest) = (front k, f i k first, times_there n R Adds f k j rest)

  pub part_there : (part : Part) (i j : ℕ) → PartLeads part over i j → Spells part (LeadsInto over.rom) (front i) (front j)
  part_there (Row row) i j h = row_there row.items i j h
  part_there (Then' p a q b) i j (k, first, rest) = (front k, part_there a i k first, part_there b k j rest)
  part_there (Either' p a q b) i j (inl h) = inl (part_there a i j h)
  part_there (Either' p a q b) i j (inr h) = inr (part_there b i j h)
  part_there (Repeat' least most p body) i j (n, low, few, h) =
      (n, low, few, times_there n (PartLeads body over) (Spells body (LeadsInto over.rom)) (part_there body) i j h)

  jump_there : (to : ℕ) (i j : ℕ) → JumpLeads to over i j → AddsJump to (front i) (front j)
  jump_there to i j h =
      record {
        item = h.item;
        one_more = ap front h.next ∙ front_next i h.item h.within ∙ ap (λ (x : Item). x ∷ front i) h.there;
        jumps =
            h.jumps;
      }

  jumps_there : (jumps : List Jump) (i j : ℕ) → JumpsLead jumps over i j → SpellsJumps jumps (LeadsInto over.rom) (front i) (front j)
  jumps_there [] i j h = ap front h
  jumps_there (jump ∷ jumps) i j (k, first, (l, part, rest)) =
      (front k, front l, jump_there jump.area.first i k first, part_there jump.body k l part, jumps_there jumps l j rest)

  starts_there : (first j : ℕ) → ListStarts first over j → BeginsAt first (front j)
  starts_there zero j h = ap front h
  starts_there (suc n) j h = jump_there (suc n) 0 j h

  pub recipe_there : (recipe : Recipe) (j : ℕ) → RecipeLeads recipe over j → SpellsList (LeadsInto over.rom) recipe (front j)
  recipe_there recipe j h =
      let s = h.starts in
      let b = h.spelled in
      record {
        area = s.area;
        listed = s.listed;
        start = front h.start;
        begins = starts_there s.area.first h.start s.starts;
        between =
            front b.0;
        spelled = part_there recipe.body h.start b.0 b.1;
        jumped = jumps_there recipe.jumps b.0 j b.2;
      }

  -- ---- from items to indices

  -- what leads to an index from items that are those before another
  record From (R : Leads) (before : List Item) (j : ℕ) : Type 0 where
    i : ℕ
    le : i ≤ length items
    is : before ≡ front i
    leads : R i j

  piece_back : (piece : Piece) (before after : List Item) (j : ℕ) → j ≤ length items → after ≡ front j
      → AddsPiece piece (LeadsInto over.rom) before after → From (PieceLeads piece over) before j
  piece_back piece before after j le is h =
      let b = one_back h.item before j le (sym h.one_more ∙ is) in
      record {
        i = b.i;
        le = omega (arith, b.less);
        is = b.is;
        leads =
            record {
              item = h.item;
              within = b.less;
              there = b.there;
              taken = h.taken;
              arrives =
                  subst (Arrives (LeadsInto over.rom) piece.kind) is h.arrives;
              next = b.next;
            };
      }

  row_back : (row : List Piece) (before after : List Item) (j : ℕ) → j ≤ length items → after ≡ front j
      → AddsRow row (LeadsInto over.rom) before after → From (RowLeads row over) before j
  row_back [] before after j le is h = record { i = j; le = le; is = sym h ∙ is; leads = refl }
  row_back (piece ∷ row) before after j le is (between, first, rest) =
      let r = row_back row between after j le is rest in
      let f = piece_back piece before between r.i r.le r.is first in
      record { i = f.i; le = f.le; is = f.is; leads = (r.i, f.leads, r.leads) }

  abbrev Back : Leads → (List Item → List Item → Type 0) → Type 0
  Back R Adds = (before after : List Item) (j : ℕ) → j ≤ length items → after ≡ front j → Adds before after → From R before j

  times_back : (n : ℕ) (R : Leads) (Adds : List Item → List Item → Type 0) → Back R Adds → Back (TimesOver n R) (Times n Adds)
  times_back zero R Adds f before after j le is h = record { i = j; le = le; is = sym h ∙ is; leads = refl }
  times_back (suc n) R Adds f before after j le is (between, first, rest) =
      let r = times_back n R Adds f between after j le is rest in
      let b = f before between r.i r.le r.is first in
      record { i = b.i; le = b.le; is = b.is; leads = (r.i, b.leads, r.leads) }

  part_back : (part : Part) → Back (PartLeads part over) (Spells part (LeadsInto over.rom))
  part_back (Row row) before after j le is h =
      let r = row_back row.items before after j le is h in record { i = r.i; le = r.le; is = r.is; leads = r.leads }
  part_back (Then' p a q b) before after j le is (between, first, rest) =
      let r = part_back b between after j le is rest in
      let f = part_back a before between r.i r.le r.is first in
      record { i = f.i; le = f.le; is = f.is; leads = (r.i, f.leads, r.leads) }
  part_back (Either' p a q b) before after j le is (inl h) =
      let r = part_back a before after j le is h in record { i = r.i; le = r.le; is = r.is; leads = inl r.leads }
  part_back (Either' p a q b) before after j le is (inr h) =
      let r = part_back b before after j le is h in record { i = r.i; le = r.le; is = r.is; leads = inr r.leads }
  part_back (Repeat' least most p body) before after j le is (n, low, few, h) =
      let r = times_back n (PartLeads body over) (Spells body (LeadsInto over.rom)) (part_back body) before after j le is h in
      record { i = r.i; le = r.le; is = r.is; leads = (n, low, few, r.leads) }

  jump_back : (to : ℕ) → Back (JumpLeads to over) (AddsJump to)
  jump_back to before after j le is h =
      let b = one_back h.item before j le (sym h.one_more ∙ is) in
      record {
        i = b.i;
        le = omega (arith, b.less);
        is = b.is;
        leads =
            record { item = h.item; within = b.less; there = b.there; jumps = h.jumps; next = b.next };
      }

  jumps_back : (jumps : List Jump) → Back (JumpsLead jumps over) (SpellsJumps jumps (LeadsInto over.rom))
  jumps_back [] before after j le is h = record { i = j; le = le; is = sym h ∙ is; leads = refl }
  jumps_back (jump ∷ jumps) before after j le is (there, between, jumped, spelled, rest) =
      let r = jumps_back jumps between after j le is rest in
      let s = part_back jump.body there between r.i r.le r.is spelled in
      let f = jump_back jump.area.first before there s.i s.le s.is jumped in
      record { i = f.i; le = f.le; is = f.is; leads = (s.i, f.leads, (r.i, s.leads, r.leads)) }

  none_before : (i : ℕ) → i ≤ length items → [] ≡ front i → i ≡ 0
  none_before i le is = sym (length_front i le) ∙ ap (λ (l : List Item). length l) (sym is)

  starts_back : (first : ℕ) (start : List Item) (i : ℕ) → i ≤ length items → start ≡ front i → BeginsAt first start
      → ListStarts first over i
  starts_back zero start i le is h = none_before i le (sym h ∙ is)
  starts_back (suc n) start i le is h =
      let b = jump_back (suc n) [] start i le is h in
      subst (λ m. JumpLeads (suc n) over m i) (none_before b.i b.le b.is) b.leads

  pub recipe_back : (recipe : Recipe) (after : List Item) (j : ℕ) → j ≤ length items → after ≡ front j → SpellsList (LeadsInto over.rom) recipe after
      → RecipeLeads recipe over j
  recipe_back recipe after j le is h =
      let r = jumps_back recipe.jumps h.between after j le is h.jumped in
      let s = part_back recipe.body h.start h.between r.i r.le r.is h.spelled in
      record {
        start = s.i;
        starts =
            record { area = h.area; listed = h.listed; starts = starts_back h.area.first h.start s.i s.le s.is h.begins };
        spelled =
            (r.i, s.leads, r.leads);
      }
