-- What items take that lead over the parts, the jumps and the lists of a recipe.
use Rattle.dvg_recipe.proofs.Common.{◌≡◌, ◌⊎◌, ◌≤◌, ◌<◌, ℕ, suc, List, [], ◌∷◌, ◌++◌, length, take, get_or, take-suc, take_all, refl, sym, ap, subst, ⊎_elim, arith, cases_lt, Option, None, Some, Contains, Contains-append_cases}
use Rattle.std.specs.Prelude.{true, false, OnOk, Result, Ok, Err}
use Rattle.dvg_check.proofs.Common.{Entry, Item, Instr, Draws, Labs, Halt, Jsrl, Rtsl, Jmpl, Key, At, Any, Format, Short, Frame, ◌≢◌, target, frame_context, Holds}
use Rattle.dvg_words.specs.declared.machine.Machine.TheVariants.{Board}
use Rattle.dvg_items.specs.Known.{scale_before, scale_set}
use Rattle.dvg_clocks.specs.declared.clocks.States.{States}
use Rattle.dvg_clocks.specs.declared.clocks.ClockRange.{ClockRange}
use Rattle.dvg_clocks.specs.Forecasts.{plus, just, clocks_known, taken_before}
use Rattle.dvg_recipe.specs.Recipes.{Leading, PieceKind, Place, Takes, TakesPlace, TakesCall, PlaceRange, Part, Piece, Jump, Area, Recipe, AddsPiece, AddsRow, Spells, SpellsJumps, Times, BeginsAt}
use Rattle.dvg_recipe.specs.Private.Judging.{Adds, AddsJumpTo, Both, TimesOver, Turns}
use Rattle.dvg_recipe.specs.Private.Clocks.{Anywhere, MostClocks, most_at, IsUnder, AreNoMore, AreAlike, IsLabsAt, TakeOn, Spend, StartWith, EndWith, AreUnderMost, AreListsUnder, scale_past, taken_past}
use Rattle.dvg_recipe.proofs.Judging.{row_split, jumps_split, times_last, JumpPart}
use Rattle.dvg_recipe.proofs.Onward.{begins_here, begins_there, only_area}

pub on_ok_then : {A E : Type 0} (r : Result A E) (P Q : Type 0) → (P → Q) → OnOk r P → OnOk r Q
on_ok_then (Ok a) P Q f h = f h
on_ok_then (Err e) P Q f h = tt

pub on_ok_both : {A E : Type 0} (r : Result A E) (P Q : Type 0) → OnOk r P → OnOk r Q → OnOk r (P × Q)
on_ok_both (Ok a) P Q h k = (h, k)
on_ok_both (Err e) P Q h k = tt

-- ---- the most

pub no_more_on : (xs ys zs : MostClocks) → AreNoMore xs ys → AreNoMore ys zs → AreNoMore xs zs
no_more_on xs ys zs h k = record { each = λ scale n u. k.each scale n (h.each scale n u) }

-- ---- items that are alike

pub jumps_alike : (t : States) (format : Format) (i : Item) (a b : ℕ) → i.instr ≡ Jmpl b
    → AreAlike t (record { at = 0; format = format; instr = Jmpl a }) i
jumps_alike t format i a b is = record { clocks = λ scale. clocks scale; calls = grind (arith, is); sets = λ named. sets named }
  where
    clocks : (scale : Key) → clocks_known t format (Jmpl a) scale ≡ clocks_known t i.format i.instr scale
    clocks (At s) = grind (arith, is)
    clocks Any = grind (arith, is)

    sets : (named : Option Entry) → scale_set (Jmpl a) named ≡ scale_set i.instr named
    sets None = grind (arith, is)
    sets (Some e) = grind (arith, is)

pub labs_alike : (t : States) (format : Format) (i : Item) (s : ℕ) → IsLabsAt s i.instr
    → AreAlike t (record { at = 0; format = format; instr = Labs 0 0 s }) i
labs_alike t format i s is = by i.instr refl is
  where
    by : (instr : Instr) → i.instr ≡ instr → IsLabsAt s instr → AreAlike t (record { at = 0; format = format; instr = Labs 0 0 s }) i
    by (Labs x y g) at same = record { clocks = clocks; calls = ap (target Frame) (sym at); sets = λ named. grind (arith, at, same) }
      where
        clocks : (scale : Key) → clocks_known t format (Labs 0 0 s) scale ≡ clocks_known t i.format i.instr scale
        clocks (At k) = ap (λ j. clocks_known t i.format j (At k)) (sym at)
        clocks Any = ap (λ j. clocks_known t i.format j Any) (sym at)
    by instr at same = absurd (grind (arith, same))

pub calls_alike : (t : States) (format : Format) (i : Item) (to : ℕ) → i.instr ≡ Jsrl to
    → AreAlike t (record { at = 0; format = format; instr = Jsrl to }) i
calls_alike t format i to is =
    record { clocks = clocks; calls = ap (target Frame) (sym is); sets = λ named. ap (λ j. scale_set j named) (sym is) }
  where
    clocks : (scale : Key) → clocks_known t format (Jsrl to) scale ≡ clocks_known t i.format i.instr scale
    clocks (At k) = ap (λ j. clocks_known t i.format j (At k)) (sym is)
    clocks Any = ap (λ j. clocks_known t i.format j Any) (sym is)

pub same_alike : (t : States) (at : ℕ) (format : Format) (instr : Instr) (i : Item) → Holds format instr ≡ Holds i.format i.instr
    → AreAlike t (record { at = at; format = format; instr = instr }) i
same_alike t at format instr i is = grind (arith, is)

module _ (t : States) (list : List Entry) (by_entry : Entry → ClockRange) where
  -- ---- one item

  pub on_more : (P : Item → Type 0) (here next more : MostClocks) → AreNoMore next more → TakeOn t list by_entry P here next
      → TakeOn t list by_entry P here more
  on_more P here next more u h =
      record {
        each = λ i p scale n under. u.each (scale_past t list by_entry i scale) (taken_past t list by_entry i scale n)
            (h.each i p scale n under);
      }

  pub on_fewer : (P Q : Item → Type 0) (here next : MostClocks) → ((i : Item) → Q i → P i) → TakeOn t list by_entry P here next
      → TakeOn t list by_entry Q here next
  on_fewer P Q here next within h = record { each = λ i q. h.each i (within i q) }

  -- what is so past an item is so past each that is like it
  pub on_alike : (item : Item) (here next : MostClocks)
      → ((scale : Key) (n : ClockRange) → IsUnder n (most_at here scale)
      → IsUnder (taken_past t list by_entry item scale n) (most_at next (scale_past t list by_entry item scale)))
      → TakeOn t list by_entry (AreAlike t item) here next
  on_alike item here next h =
      record { each = λ i alike scale n under. grind (arith, alike.clocks scale, alike.calls, alike.sets, h scale n under) }

  pub on_kind : (kind other : PieceKind) (here next : MostClocks) → kind ≡ other
      → TakeOn t list by_entry (λ i. Takes kind i.format i.instr) here next
      → TakeOn t list by_entry (λ i. Takes other i.format i.instr) here next
  on_kind kind other here next is h = subst (λ (k : PieceKind). TakeOn t list by_entry (λ i. Takes k i.format i.instr) here next) is h

  -- what is so past each LABS that sets a scale of a range is so past each LABS of the range
  pub on_places : (r : PlaceRange) (here next : MostClocks)
      → ((s : ℕ) → get_or r.scales s false ≡ true → TakeOn t list by_entry (λ i. IsLabsAt s i.instr) here next)
      → TakeOn t list by_entry (λ i. Takes (Place r) i.format i.instr) here next
  on_places r here next h = record { each = λ i taken. each i i.instr refl taken }
    where
      each : (i : Item) (instr : Instr) → i.instr ≡ instr → TakesPlace r instr → (scale : Key) (n : ClockRange)
          → IsUnder n (most_at here scale)
          → IsUnder (taken_past t list by_entry i scale n) (most_at next (scale_past t list by_entry i scale))
      each i (Labs x y s) is taken = (h s taken.2).each i (subst (IsLabsAt s) (sym is) refl)
      each i (Draws d) is taken = absurd taken
      each i Halt is taken = absurd taken
      each i (Jsrl to) is taken = absurd taken
      each i Rtsl is taken = absurd taken
      each i (Jmpl to) is taken = absurd taken

  -- and what is so past each of some calls is so past all
  pub on_calls : (targets : List ℕ) (here next : MostClocks)
      → ((to : ℕ) → Contains targets to → TakeOn t list by_entry (λ i. i.instr ≡ Jsrl to) here next)
      → TakeOn t list by_entry (λ i. TakesCall targets i.instr) here next
  on_calls targets here next h = record { each = λ i taken. each i i.instr refl taken }
    where
      each : (i : Item) (instr : Instr) → i.instr ≡ instr → TakesCall targets instr → (scale : Key) (n : ClockRange)
          → IsUnder n (most_at here scale)
          → IsUnder (taken_past t list by_entry i scale n) (most_at next (scale_past t list by_entry i scale))
      each i (Jsrl to) is taken = (h to taken).each i is
      each i (Draws d) is taken = absurd taken
      each i Halt is taken = absurd taken
      each i (Labs x y s) is taken = absurd taken
      each i Rtsl is taken = absurd taken
      each i (Jmpl to) is taken = absurd taken

  -- ---- one after the other

  pub spend_both : (R S : Adds) (xs ys zs : MostClocks) → Spend t list by_entry R xs ys → Spend t list by_entry S ys zs
      → Spend t list by_entry (Both R S) xs zs
  spend_both R S xs ys zs h k = record { each = λ before after b under. k.each b.0 after b.2 (h.each before b.0 b.1 under) }

  pub spend_as : (R S : Adds) (xs ys : MostClocks) → ((into : Leading) (before after : List Item) → S into before after → R into before after)
      → Spend t list by_entry R xs ys → Spend t list by_entry S xs ys
  spend_as R S xs ys g h = record { each = λ before after s under. h.each before after (g Anywhere before after s) under }

  pub spend_either : (R S : Adds) (xs ys zs all : MostClocks) → AreNoMore ys all → AreNoMore zs all → Spend t list by_entry R xs ys
      → Spend t list by_entry S xs zs → Spend t list by_entry (λ into before after. R into before after ⊎ S into before after) xs all
  spend_either R S xs ys zs all u v h k =
      record {
        each = λ before after s under. ⊎_elim (λ r. u.each _ _ (h.each before after r under))
            (λ q. v.each _ _ (k.each before after q under)) s;
      }

  pub part_as : (part other : Part) (xs ys : MostClocks) → part ≡ other → Spend t list by_entry (Spells part) xs ys
      → Spend t list by_entry (Spells other) xs ys
  part_as part other xs ys is h = subst (λ (p : Part). Spend t list by_entry (Spells p) xs ys) is h

  -- ---- rows

  spend_item : (P : Item → Type 0) (xs ys : MostClocks) (before after : List Item) (i : Item) → TakeOn t list by_entry P xs ys
      → after ≡ i ∷ before → P i → AreUnderMost t list by_entry xs before → AreUnderMost t list by_entry ys after
  spend_item P xs ys before after i on is p under =
      subst (AreUnderMost t list by_entry ys) (sym is)
      (on.each i p (scale_before (frame_context Board list) before)
      (taken_before (clocks_known t) by_entry (frame_context Board list) before) under)

  pub spend_piece : (piece : Piece) (xs ys : MostClocks) → TakeOn t list by_entry (λ i. Takes piece.kind i.format i.instr) xs ys
      → Spend t list by_entry (AddsPiece piece) xs ys
  spend_piece piece xs ys on =
      record {
        each = λ before after a under. spend_item (λ i. Takes piece.kind i.format i.instr) xs ys before after a.item on
            a.one_more a.taken under;
      }

  pub spend_jump : (to : ℕ) (xs ys : MostClocks) → TakeOn t list by_entry (λ i. (to : ℕ) × (i.instr ≡ Jmpl to)) xs ys
      → Spend t list by_entry (AddsJumpTo to) xs ys
  spend_jump to xs ys on =
      record {
        each = λ before after a under. spend_item (λ i. (to : ℕ) × (i.instr ≡ Jmpl to)) xs ys before after a.item on
            a.one_more (to, a.jumps) under;
      }

  pub row_next : (row : List Piece) (i n : ℕ) (d : Piece) (xs ys zs : MostClocks) → n ≡ suc i → i < length row
      → Spend t list by_entry (AddsRow (take i row)) xs ys
      → TakeOn t list by_entry (λ j. Takes (get_or row i d).kind j.format j.instr) ys zs
      → Spend t list by_entry (AddsRow (take n row)) xs zs
  row_next row i n d xs ys zs is lt h on =
      let more = spend_as (Both (AddsRow (take i row)) (AddsPiece (get_or row i d))) (AddsRow (take i row ++ get_or row i d ∷ [])) xs zs
      (row_split (take i row) (get_or row i d))
      (spend_both (AddsRow (take i row)) (AddsPiece (get_or row i d)) xs ys zs h (spend_piece (get_or row i d) ys zs on)) in
      subst (λ m. Spend t list by_entry (AddsRow (take m row)) xs zs) (sym is)
      (subst (λ (l : List Piece). Spend t list by_entry (AddsRow l) xs zs) (sym (take-suc row i d lt)) more)

  pub row_whole : (row : List Piece) (xs ys : MostClocks) (i : ℕ) → length row ≤ i → Spend t list by_entry (AddsRow (take i row)) xs ys
      → Spend t list by_entry (AddsRow row) xs ys
  row_whole row xs ys i le h = subst (λ (l : List Piece). Spend t list by_entry (AddsRow l) xs ys) (take_all i row le) h

  -- ---- jumps

  pub jumps_next : (jumps : List Jump) (i n : ℕ) (d : Jump) (xs ys zs all : MostClocks) → n ≡ suc i → i < length jumps
      → Spend t list by_entry (SpellsJumps (take i jumps)) xs ys → TakeOn t list by_entry (λ i. (to : ℕ) × (i.instr ≡ Jmpl to)) ys zs
      → Spend t list by_entry (Spells (get_or jumps i d).body) zs all → Spend t list by_entry (SpellsJumps (take n jumps)) xs all
  jumps_next jumps i n d xs ys zs all is lt h on l =
      let jump = get_or jumps i d in
      let part = spend_both (AddsJumpTo jump.area.first) (Spells jump.body) ys zs all (spend_jump jump.area.first ys zs on) l in
      let more = spend_as (Both (SpellsJumps (take i jumps)) (JumpPart jump)) (SpellsJumps (take i jumps ++ jump ∷ [])) xs all
      (jumps_split (take i jumps) jump) (spend_both (SpellsJumps (take i jumps)) (JumpPart jump) xs ys all h part) in
      subst (λ m. Spend t list by_entry (SpellsJumps (take m jumps)) xs all) (sym is)
      (subst (λ (l : List Jump). Spend t list by_entry (SpellsJumps l) xs all) (sym (take-suc jumps i d lt)) more)

  pub jumps_whole : (jumps : List Jump) (xs ys : MostClocks) (i : ℕ) → length jumps ≤ i
      → Spend t list by_entry (SpellsJumps (take i jumps)) xs ys → Spend t list by_entry (SpellsJumps jumps) xs ys
  jumps_whole jumps xs ys i le h = subst (λ (l : List Jump). Spend t list by_entry (SpellsJumps l) xs ys) (take_all i jumps le) h

  -- ---- turns

  module _ (body : Part) where
    pub one_turn : (n m : ℕ) (xs ys zs : MostClocks) → m ≡ suc n → Spend t list by_entry (TimesOver n (Spells body)) xs ys
        → Spend t list by_entry (Spells body) ys zs → Spend t list by_entry (TimesOver m (Spells body)) xs zs
    one_turn n m xs ys zs is h k =
        subst (λ l. Spend t list by_entry (TimesOver l (Spells body)) xs zs) (sym is)
        (spend_as (Both (TimesOver n (Spells body)) (Spells body)) (TimesOver (suc n) (Spells body)) xs zs (times_last (Spells body) n)
        (spend_both (TimesOver n (Spells body)) (Spells body) xs ys zs h k))

    pub least_turns : (least n : ℕ) (xs ys : MostClocks) → n ≡ least → Spend t list by_entry (TimesOver n (Spells body)) xs ys
        → Spend t list by_entry (Turns least least (Spells body)) xs ys
    least_turns least n xs ys is h =
        record {
          each = λ before after turns under. h.each before after
              (subst (λ m. Times m (Spells body Anywhere) before after) (omega (arith, is, turns.1, turns.2)) turns.3) under;
        }

    pub more_turns : (least n m : ℕ) (xs here next more : MostClocks) → m ≡ suc n
        → Spend t list by_entry (Turns least n (Spells body)) xs next → Spend t list by_entry (TimesOver m (Spells body)) xs here
        → AreNoMore next more → AreNoMore here more → Spend t list by_entry (Turns least m (Spells body)) xs more
    more_turns least n m xs here next more is h k u v = record {
      each = λ before after turns under. ⊎_elim
          (λ less. u.each _ _ (h.each before after (turns.0, turns.1, omega (arith, is, less), turns.3) under))
          (λ same. v.each _ _ (k.each before after
          (subst (λ l. Times l (Spells body Anywhere) before after) (omega (arith, same, turns.2)) turns.3) under))
          (cases_lt turns.0 m);
    }

  -- ---- lists

  pub starts_none : (areas : List Area) (here : MostClocks) → StartWith t list by_entry (take 0 areas) here
  starts_none areas here = record { each = λ items b. absurd (omega (arith, b.1.1)) }

  pub starts_more : (areas : List Area) (i n : ℕ) (d : Area) (here there more : MostClocks) → n ≡ suc i → i < length areas
      → StartWith t list by_entry (take i areas) here → AreNoMore here more → StartWith t list by_entry (get_or areas i d ∷ []) there
      → AreNoMore there more → StartWith t list by_entry (take n areas) more
  starts_more areas i n d here there more is lt h under new over = record {
    each = λ items b. ⊎_elim (λ old. under.each _ _ (h.each items (b.0, old, b.2)))
        (λ last. over.each _ _ (new.each items (b.0, last, b.2)))
        (Contains-append_cases (take i areas) (get_or areas i d ∷ []) b.0
        (subst (λ (l : List Area). Contains l b.0) (take-suc areas i d lt) (subst (λ m. Contains (take m areas) b.0) is b.1)));
  }

  pub starts_whole : (areas : List Area) (here : MostClocks) (i : ℕ) → length areas ≤ i → StartWith t list by_entry (take i areas) here
      → StartWith t list by_entry areas here
  starts_whole areas here i le h = subst (λ (l : List Area). StartWith t list by_entry l here) (take_all i areas le) h

  pub starts_here : (area : Area) (first : MostClocks) → area.first ≡ 0 → AreUnderMost t list by_entry first []
      → StartWith t list by_entry (area ∷ []) first
  starts_here area first is under = record {
    each = λ items b. subst (AreUnderMost t list by_entry first)
        (sym (begins_here area.first items is (subst (λ (a : Area). BeginsAt a.first items) (sym (only_area area b.0 b.1)) b.2))) under;
  }

  pub starts_there : (area : Area) (first there : MostClocks) → area.first ≢ 0 → AreUnderMost t list by_entry first []
      → TakeOn t list by_entry (λ i. (to : ℕ) × (i.instr ≡ Jmpl to)) first there → StartWith t list by_entry (area ∷ []) there
  starts_there area first there not under on = record {
    each = λ items b.
        let a = begins_there area.first items not (subst (λ (a : Area). BeginsAt a.first items) (sym (only_area area b.0 b.1)) b.2) in
        spend_item (λ i. (to : ℕ) × (i.instr ≡ Jmpl to)) first there [] items a.item on a.one_more (area.first, a.jumps) under;
  }

  pub end_with : (recipe : Recipe) (start between ends : MostClocks) → StartWith t list by_entry recipe.lists start
      → Spend t list by_entry (Spells recipe.body) start between → Spend t list by_entry (SpellsJumps recipe.jumps) between ends
      → EndWith t list by_entry recipe ends
  end_with recipe start between ends lists body jumps = record {
    each = λ items s. jumps.each s.between items s.jumped
        (body.each s.start s.between s.spelled (lists.each s.start (s.area, s.listed, s.begins)));
  }

  -- with a HALT behind it, a list takes what is known at all scales and what the HALT takes
  pub lists_under : (recipe : Recipe) (ends : MostClocks) (before most : ClockRange) → EndWith t list by_entry recipe ends
      → ((scale : Key) (n : ClockRange) → IsUnder n (most_at ends scale) → IsUnder n (Some before))
      → most ≡ plus (plus (clocks_known t Short Halt Any) (just 0)) before → AreListsUnder t list by_entry recipe most
  lists_under recipe ends before most all greatest is = record {
    each = λ items at format s. subst
        (λ m. IsUnder (taken_before (clocks_known t) by_entry (frame_context Board list)
        (record { at = at; format = format; instr = Halt } ∷ items)) (Some m)) (sym is)
        (under format (scale_before (frame_context Board list) items)
        (taken_before (clocks_known t) by_entry (frame_context Board list) items) (greatest _ _ (all.each items s)));
  }
    where
      under : (format : Format) (scale : Key) (n : ClockRange) → IsUnder n (Some before)
          → IsUnder (plus (plus (clocks_known t format Halt scale) (just 0)) n)
          (Some (plus (plus (clocks_known t Short Halt Any) (just 0)) before))
      under format (At s) n u = (omega (arith, u.0), omega (arith, u.1))
      under format Any n u = (omega (arith, u.0), omega (arith, u.1))
