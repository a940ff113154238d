-- The worked recipe with places up to the last one from which the stroke stays on the screen: the two shapes, and each frame of it.
use Rattle.dvg_recipe.proofs.Common.{◌≡◌, ◌≤◌, ◌+◌, ◌∙◌, ℕ, zero, suc, List, [], ◌∷◌, Some, false, get_or, refl, sym, ap, subst, inl, arith, Contains, LeadsTo, next_address}
use Rattle.std.specs.Prelude.{true, replicate}
use Rattle.dvg_check.proofs.Common.{ints, ℤ, pos, ◌≤ℤ◌, ◌*ℤ◌, Board, Short, Long, Format, Holds, Halt, Labs, Jsrl, Instr, Cell, Item, Frame, Shape, Source, Entry, At, Rel, Empty, shift, InWindow, screen, rom_word, frame_word, frame_context, seen_at, FrameKeeps, CellKeeps, FramePlaceKeeps, ShapePlaceKeeps, GoodShape, Good, GoodFrame, IsJudged, rom_for, example_entry, words_before, depth_before}
unfoldable use Rattle.dvg_check.proofs.Common.{cell_at, instruction_of, displacement}
use Rattle.dvg_check.specs.declared.fault.Mode.TheVariants.{Exact}
use Rattle.dvg_check.specs.declared.fault.ShapeWhy.{ShapeWhy}
use Rattle.dvg_check.specs.declared.fault.FrameWhy.{FrameWhy}
use Rattle.dvg_check.specs.declared.fault.FrameWhy.TheVariants as rule
use Rattle.dvg_check.proofs.Faults.{all_kept}
use Rattle.dvg_check.proofs.Example.{draw_item, return_item, draw_there, return_there, accepted, worked_example}
use Rattle.dvg_words.specs.Beam.{signed_field}
use Rattle.dvg_cert.specs.Order.{IsCertificate}
use Rattle.dvg_words.specs.Values.{asteroids}
use Rattle.dvg_recipe.specs.Recipes.{Leading, IsFrameOf, RunsInto, Piece, AddsRow, Takes, TakesCall, IsInSpan, Area, BeginsAt}
use Rattle.dvg_recipe.specs.Members.{IsMember, LeadsInto}
use Rattle.dvg_recipe.specs.Private.Hulls.{HasFormat}
use Rattle.dvg_words.specs.Memory.{IsFrame}
use Rattle.dvg_words.specs.Values.{IsWindow}
use Rattle.dvg_recipe.specs.Examples.{call_piece, column_piece, ColumnParts, column_recipe, edge_words, WorkedAcceptance}
use Rattle.dvg_recipe.proofs.Past.{format_there}
use Rattle.dvg_recipe.proofs.Members.{IsGoodMember, every_means}
use Rattle.dvg_recipe.proofs.MemberExample.{row_of, only_area}

-- ---- a frame by its words

abbrev pub place_item : ℕ → ℕ → Item
place_item x y = record { at = 0; format = Long; instr = Labs x y 0 }

abbrev pub call_item : ℕ → Item
call_item to = record { at = 2; format = Short; instr = Jsrl to }

abbrev pub halt_item : Item
halt_item = record { at = 3; format = Short; instr = Halt }

pub belongs_by : (y : ℕ) (words : List ℕ) (top : ℤ) (p : ColumnParts top) → IsFrame words
    → LeadsTo Frame (frame_word Board words) 0 (call_item 0x800 ∷ place_item 0 y ∷ []) 3
    → cell_at (frame_word Board words) 3 ≡ Holds Short Halt → IsInSpan (record { low = pos 0; high = top }) (signed_field y)
    → IsMember (rom_for Board) (column_recipe p) words
belongs_by y words top p whole leads halts there =
    let items : List Item = call_item 0x800 ∷ place_item 0 y ∷ [] in
    record {
      frame = whole;
      items = items;
      at = 3;
      format = Short;
      leads = leads;
      halts = halts;
      spelled = record {
        area = record { first = 0; last = 0x00F };
        listed = (0, omega arith, refl);
        start = [];
        begins = refl;
        between = items;
        spelled = row_of (column_piece top ∷ call_piece p.targets.0 ∷ []) p.row (LeadsInto (rom_for Board)) [] items (
          place_item 0 y ∷ [],
          record {
            item = place_item 0 y;
            one_more = refl;
            taken =
                (record { low = omega (arith, ints); high = omega (arith, ints) }, there, refl);
            arrives = tt;
          },
          (
            items,
            record {
              item = call_item 0x800;
              one_more = refl;
              taken =
                  subst (λ (l : List ℕ). Contains l 0x800) (sym p.targets.1) (0, omega arith, refl);
              arrives = tt;
            },
            refl,
          ),
        );
        jumped = refl;
      };
    }

edge_leads : LeadsTo Frame (frame_word Board edge_words) 0 (call_item 0x800 ∷ place_item 0 256 ∷ []) 3
unfolding cell_at instruction_of
edge_leads = ((refl, refl, refl), refl, refl)

edge_halts : cell_at (frame_word Board edge_words) 3 ≡ Holds Short Halt
unfolding cell_at instruction_of
edge_halts = refl

edge_belongs : (p : ColumnParts (pos 256)) → IsMember (rom_for Board) (column_recipe p) edge_words
edge_belongs p =
    belongs_by 256 edge_words (pos 256) p (record { some = omega arith; few = omega arith }) edge_leads edge_halts
    (record { low = omega (arith, ints); high = omega (arith, ints) })

-- ---- the shapes

-- the RTSL at 802 alone, called at scale 0
abbrev return_entry : Entry
return_entry =
    record { addr = 0x802; key = At 0; stop = Rel (pos 0) (pos 0); lit = Empty; depth = 0; words = 1; scale = At 0 }

abbrev both : List Entry
both = example_entry ∷ return_entry ∷ []

stroke_good : GoodShape Exact screen (rom_for Board) both example_entry
unfolding cell_at instruction_of displacement
stroke_good =
    all_kept Shape (rom_word (rom_for Board)) 2048 ShapeWhy (ShapePlaceKeeps Exact screen (rom_for Board) both example_entry)
    (draw_item ∷ []) return_item (refl, draw_there Board, refl) (return_there Board) refl
    ((tt, λ why. grind (arith, ints)), λ why. grind (arith, ints))

return_good : GoodShape Exact screen (rom_for Board) both return_entry
unfolding cell_at instruction_of displacement
return_good =
    all_kept Shape (rom_word (rom_for Board)) 2050 ShapeWhy (ShapePlaceKeeps Exact screen (rom_for Board) both return_entry) []
    return_item refl (return_there Board) refl (tt, λ why. grind (arith, ints))

shapes_good : Good Exact screen (rom_for Board) both
shapes_good e (zero, lt, is) = subst (GoodShape Exact screen (rom_for Board) both) is stroke_good
shapes_good e (suc zero, lt, is) = subst (GoodShape Exact screen (rom_for Board) both) is return_good
shapes_good e (suc (suc k), lt, is) = absurd (omega (arith, lt))

certificate : IsCertificate asteroids both
certificate =
    let one = (worked_example Board).certificate in
    record { map_is = one.map_is; each = (one.each.0, (grind (arith), tt)); rising = (inl (omega arith), tt); few = grind (arith) }

judged : IsJudged (record { rom = rom_for Board; list = both; window = screen; mode = Exact })
judged = record { rom = (worked_example Board).memory.rom; list = (asteroids, certificate); good = shapes_good }

-- ---- each frame

-- both corners of the stroke's box are on the screen
corner_near : (x y : ℤ) → pos 0 ≤ℤ x → x ≤ℤ pos 0 → pos 0 ≤ℤ y → y ≤ℤ pos 256
    → InWindow screen (shift (record { x = pos 1024 *ℤ x; y = pos 1024 *ℤ y }) (record { x = pos 0; y = pos 0 }))
corner_near x y a b c d =
    record { left = omega (arith, ints, a); right = omega (arith, ints, b); bottom = omega (arith, ints, c); top = omega (arith, ints, d) }

corner_far : (x y : ℤ) → pos 0 ≤ℤ x → x ≤ℤ pos 0 → pos 0 ≤ℤ y → y ≤ℤ pos 256
    → InWindow screen (shift (record { x = pos 1024 *ℤ x; y = pos 1024 *ℤ y }) (record { x = pos 1047552; y = pos 785408 }))
corner_far x y a b c d =
    record { left = omega (arith, ints, a); right = omega (arith, ints, b); bottom = omega (arith, ints, c); top = omega (arith, ints, d) }

-- the LABS keeps all rules, and so does a call of either shape
place_keeps : (x y : ℕ) (why : FrameWhy) → FrameKeeps screen 20000 (seen_at (frame_context Board both) [] (place_item x y)) why
place_keeps x y why = grind (arith)

-- the place is in the column
record IsInColumn (x y : ℕ) : Type 0 where
  across : IsInSpan (record { low = pos 0; high = pos 0 }) (signed_field x)
  up : IsInSpan (record { low = pos 0; high = pos 256 }) (signed_field y)

stroke_keeps : (x y : ℕ) → IsInColumn x y → (why : FrameWhy)
    → FrameKeeps screen 20000 (seen_at (frame_context Board both) (place_item x y ∷ []) (call_item 0x800)) why
stroke_keeps x y h rule.OffScreen = (
  corner_near (signed_field x) (signed_field y) h.across.low h.across.high h.up.low h.up.high,
  (corner_far (signed_field x) (signed_field y) h.across.low h.across.high h.up.low h.up.high, tt),
)
stroke_keeps x y h why = grind (arith)

return_keeps : (x y : ℕ) (why : FrameWhy)
    → FrameKeeps screen 20000 (seen_at (frame_context Board both) (place_item x y ∷ []) (call_item 0x802)) why
return_keeps x y why = grind (arith)

halt_keeps : (x y to : ℕ) → words_before (frame_context Board both) (call_item to ∷ place_item x y ∷ []) ≤ 6 → (why : FrameWhy)
    → FrameKeeps screen 20000 (seen_at (frame_context Board both) (call_item to ∷ place_item x y ∷ []) halt_item) why
halt_keeps x y to few why = grind (arith)

-- what these words are of
record IsCalled (to : ℕ) : Type 0 where
  few : (x y : ℕ) → words_before (frame_context Board both) (call_item to ∷ place_item x y ∷ []) ≤ 6
  deep : (x y : ℕ) → depth_before (frame_context Board both) (call_item to ∷ place_item x y ∷ []) ≤ 1
  keeps : (x y : ℕ) → IsInColumn x y → (why : FrameWhy)
      → FrameKeeps screen 20000 (seen_at (frame_context Board both) (place_item x y ∷ []) (call_item to)) why

stroke_called : IsCalled 0x800
stroke_called = record { few = λ x y. omega arith; deep = λ x y. omega arith; keeps = stroke_keeps }

return_called : IsCalled 0x802
return_called = record { few = λ x y. omega arith; deep = λ x y. omega arith; keeps = λ x y h. return_keeps x y }

one_called : (to : ℕ) → Contains (0x800 ∷ 0x802 ∷ []) to → IsCalled to
one_called to (zero, lt, is) = subst IsCalled is stroke_called
one_called to (suc zero, lt, is) = subst IsCalled is return_called
one_called to (suc (suc k), lt, is) = absurd (omega (arith, lt))

-- where a cell holds an item that keeps a rule, its place keeps it
at_place : (words : List ℕ) (earlier : List Item) (i : Item) → cell_at (frame_word Board words) i.at ≡ Holds i.format i.instr
    → ((why : FrameWhy) → FrameKeeps screen 20000 (seen_at (frame_context Board both) earlier i) why) → (why : FrameWhy)
    → FramePlaceKeeps screen Board words both 20000 earlier i.at why
at_place words earlier i is keeps why =
    subst (λ (cell : Cell). CellKeeps rule.Unmapped rule.Odd
    (λ j. FrameKeeps screen 20000 (seen_at (frame_context Board both) earlier j)) i.at cell why) (sym is) (keeps why)

member : (words : List ℕ) (x y to : ℕ) → IsInColumn x y → IsCalled to
    → LeadsTo Frame (frame_word Board words) 0 (call_item to ∷ place_item x y ∷ []) 3
    → cell_at (frame_word Board words) 3 ≡ Holds Short Halt
    → GoodFrame screen Board words both 20000 (words_before (frame_context Board both) (call_item to ∷ place_item x y ∷ []) + 1)
    (depth_before (frame_context Board both) (call_item to ∷ place_item x y ∷ []))
member words x y to place call leads halts =
    accepted Board words both (call_item to ∷ place_item x y ∷ []) 3 leads halts (
      (
        (tt, at_place words [] (place_item x y) leads.0.1 (place_keeps x y)),
        at_place words (place_item x y ∷ []) (call_item to) leads.1 (call.keeps x y place),
      ),
      at_place words (call_item to ∷ place_item x y ∷ []) halt_item halts (halt_keeps x y to (call.few x y)),
    )

-- ---- what belongs

none_set : (k n : ℕ) → get_or (replicate k false) n false ≡ false
none_set zero n = refl
none_set (suc k) zero = refl
none_set (suc k) (suc n) = none_set k n

not_true : false ≡ true → ⊥
not_true e = grind (arith)

only_zero : (scale : ℕ) → get_or (true ∷ replicate 15 false) scale false ≡ true → scale ≡ 0
only_zero zero e = refl
only_zero (suc n) e = absurd (not_true (sym (none_set 15 n) ∙ e))

-- an instruction that sets a place of the column
record IsLabs (i : Instr) : Type 0 where
  x : ℕ
  y : ℕ
  is : i ≡ Labs x y 0
  place : IsInColumn x y

labs_of : (i : Instr) → Takes (column_piece (pos 256)).kind Long i → IsLabs i
labs_of (Labs x y scale) h =
    record { x = x; y = y; is = ap (λ (s : ℕ). Labs x y s) (only_zero scale h.2); place = record { across = h.0; up = h.1 } }
labs_of i h = absurd h

-- an instruction that calls one of these
record IsCall (targets : List ℕ) (i : Instr) : Type 0 where
  to : ℕ
  is : i ≡ Jsrl to
  listed : Contains targets to

call_of : (targets : List ℕ) (i : Instr) → TakesCall targets i → IsCall targets i
call_of targets (Jsrl to) h = record { to = to; is = refl; listed = h }
call_of targets i h = absurd h

item_is : (i : Item) (at : ℕ) (format : Format) (instr : Instr) → i.at ≡ at → i.format ≡ format → i.instr ≡ instr
    → i ≡ record { at = at; format = format; instr = instr }
item_is i at format instr a f e = λ k. record { at = a k; format = f k; instr = e k }

-- a frame that belongs is a LABS to a place of the column, a call of one of the shapes and a HALT
record IsColumn (words : List ℕ) : Type 0 where
  x : ℕ
  y : ℕ
  to : ℕ
  place : IsInColumn x y
  called : IsCalled to
  leads : LeadsTo Frame (frame_word Board words) 0 (call_item to ∷ place_item x y ∷ []) 3
  halts : cell_at (frame_word Board words) 3 ≡ Holds Short Halt

pub some_same : (m n : ℕ) → Some m ≡ Some n → m ≡ n
some_same m n e = grind (arith)

module _ (into : Leading) (p : ColumnParts (pos 256)) (words : List ℕ) (b : IsFrameOf into (column_recipe p) words) where
  abbrev source : Source
  source = frame_word Board words

  starts : b.spelled.start ≡ []
  starts =
      let same = only_area (record { first = 0; last = 0x00F }) b.spelled.area b.spelled.listed in
      subst (λ n. BeginsAt n b.spelled.start) (sym (ap (λ (a : Area). a.first) same)) b.spelled.begins

  abbrev row : AddsRow (column_piece (pos 256) ∷ call_piece p.targets.0 ∷ []) into b.spelled.start b.spelled.between
  row = subst (λ (l : List Piece). AddsRow l into b.spelled.start b.spelled.between) p.row.1 b.spelled.spelled

  labs_and_call : (l c : Item) → b.items ≡ c ∷ l ∷ [] → IsLabs l.instr → IsCall (0x800 ∷ 0x802 ∷ []) c.instr → IsColumn words
  labs_and_call l c are labs call =
      let lead_there = subst (λ (items : List Item). LeadsTo Frame source 0 items b.at) are b.leads in
      let long : l.format ≡ Long =
      subst (λ (i : Instr). HasFormat l.format i) labs.is (format_there source l.at l.format l.instr lead_there.0.1) in
      let first : l ≡ place_item labs.x labs.y = item_is l 0 Long (Labs labs.x labs.y 0) lead_there.0.0 long labs.is in
      let short : c.format ≡ Short =
      subst (λ (i : Instr). HasFormat c.format i) call.is (format_there source c.at c.format c.instr lead_there.1) in
      let second : c.at ≡ 2 = sym (some_same 2 c.at (subst (λ (i : Item). next_address Frame i ≡ Some c.at) first lead_there.0.2)) in
      let last : c ≡ call_item call.to = item_is c 2 Short (Jsrl call.to) second short call.is in
      let lead : LeadsTo Frame source 0 (call_item call.to ∷ place_item labs.x labs.y ∷ []) b.at =
      subst (λ (i : Item). LeadsTo Frame source 0 (call_item call.to ∷ i ∷ []) b.at) first
      (subst (λ (i : Item). LeadsTo Frame source 0 (i ∷ l ∷ []) b.at) last lead_there) in
      let end : b.at ≡ 3 = sym (some_same 3 b.at lead.2) in
      let format : b.format ≡ Short = format_there source b.at b.format Halt b.halts in
      record {
        x = labs.x;
        y = labs.y;
        to = call.to;
        place = labs.place;
        called = one_called call.to call.listed;
        leads = subst (λ q. LeadsTo Frame source 0 (call_item call.to ∷ place_item labs.x labs.y ∷ []) q) end lead;
        halts = subst (λ q. cell_at source q ≡ Holds Short Halt) end (b.halts ∙ ap (λ (f : Format). Holds f Halt) format);
      }

  is_column : IsColumn words
  is_column =
      let l = row.1.item in
      let c = row.2.1.item in
      labs_and_call l c (b.spelled.jumped ∙ row.2.2 ∙ row.2.1.one_more
      ∙ ap (λ (items : List Item). c ∷ items) (row.1.one_more ∙ ap (λ (items : List Item). l ∷ items) starts))
      (labs_of l.instr row.1.taken)
      (call_of (0x800 ∷ 0x802 ∷ []) c.instr (subst (λ (targets : List ℕ). TakesCall targets c.instr) p.targets.1 row.2.1.taken))

  -- its draws have to lead nowhere
  rebuilt : (other : Leading) → IsFrameOf other (column_recipe p) words
  rebuilt other = record {
    frame = b.frame;
    items = b.items;
    at = b.at;
    format = b.format;
    leads = b.leads;
    halts = b.halts;
    spelled = record {
      area = b.spelled.area;
      listed = b.spelled.listed;
      start = b.spelled.start;
      begins = b.spelled.begins;
      between = b.spelled.between;
      spelled = row_of (column_piece (pos 256) ∷ call_piece p.targets.0 ∷ []) p.row other b.spelled.start b.spelled.between (
        row.0,
        record { item = row.1.item; one_more = row.1.one_more; taken = row.1.taken; arrives = tt },
        (
          row.2.0,
          record { item = row.2.1.item; one_more = row.2.1.one_more; taken = row.2.1.taken; arrives = tt },
          row.2.2,
        ),
      );
      jumped = b.spelled.jumped;
    };
  }

every : (into : Leading) (p : ColumnParts (pos 256)) (words : List ℕ) → IsFrameOf into (column_recipe p) words
    → IsGoodMember screen both 20000 (column_recipe p) 7 1 words
every into p words b =
    let m = is_column into p words b in
    let c = frame_context Board both in
    let items : List Item = call_item m.to ∷ place_item m.x m.y ∷ [] in
    record {
      n = words_before c items + 1;
      d = depth_before c items;
      few = omega (arith, (m.called.few m.x m.y));
      shallow = m.called.deep m.x m.y;
      good = member words m.x m.y m.to m.place m.called m.leads m.halts;
    }

whole : IsWindow screen
whole = grind (arith, ints)

pub column_accepted : (p : ColumnParts (pos 256)) → WorkedAcceptance (column_recipe p)
column_accepted p =
    record {
      member = edge_belongs p;
      accepted =
          every_means (rom_for Board) both screen 20000 (column_recipe p) 7 1 judged (inl whole) refl
          (λ words b. every (RunsInto (record { frame = words; rom = rom_for Board })) p words b)
          (λ words b. rebuilt (LeadsInto (rom_for Board)) p words b (RunsInto (record { frame = words; rom = rom_for Board })));
    }
