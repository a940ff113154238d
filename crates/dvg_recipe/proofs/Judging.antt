-- What leads from good fronts of frames to good fronts.
use Rattle.dvg_recipe.proofs.Common.{◌≡◌, ◌⊎◌, ◌≤◌, ◌<◌, ℕ, zero, suc, List, [], ◌∷◌, ◌++◌, length, take, get_or, take-suc, take_all, Option, None, Some, IfSome, refl, sym, ap, subst, ⊎_elim, arith, nat_tests, cases_lt, next_address}
use Rattle.dvg_check.proofs.Common.{Window, Entry, Item, Known, Instr, Draws, Labs, Halt, Jsrl, Jmpl, Any, target, Rtsl, Cell, FrameKeeps, CellKeeps, IsForward, frame_word, frame_context, seen_at, Frame, ◌≢◌}
use Rattle.std.specs.Option.{option_or}
use Rattle.dvg_words.specs.Memory.{Rom}
use Rattle.dvg_cert.specs.Lookup.{named_entry, entry_at}
use Rattle.dvg_items.specs.Known.{known_before, known_past, callee_at}
use Rattle.dvg_make.specs.Made.{AllMade}
use Rattle.dvg_check.specs.declared.fault.FrameWhy.TheVariants as frame
use Rattle.dvg_check.specs.declared.fault.FrameWhy.{FrameWhy}
use Rattle.dvg_items.specs.declared.seen.Seen.{Seen}
use Rattle.dvg_words.specs.declared.machine.Machine.TheVariants.{Board}
use Rattle.dvg_recipe.specs.Recipes.{Leading, PieceKind, PlaceSpan, Place, Call, Draw, Fixed, Takes, TakesDraw, Arrives, Part, Row, Then', Either', Repeat', Piece, Jump, AddsPiece, AddsRow, Spells, SpellsJumps, Times}
use Rattle.dvg_recipe.specs.Members.{NamesMade, Names, ComesTo}
use Rattle.dvg_recipe.specs.Private.Hulls.{Hull, AreUnder, KeepsOthers, IsKeyed, LeadOn}
use Rattle.dvg_recipe.specs.Private.Judging.{Adds, AddsJumpTo, Both, TimesOver, Turns, IsNotBeside, LeadsIn, IsTaken, IsJump, IsFront, Extends, IsGoodFront, IsSoundFront, KnownInto, Carries}
use Rattle.dvg_recipe.proofs.Past.{format_there}

-- ---- rules

kept_all : (w : Window) (budget : ℕ) (v : Seen) → v.item.instr ≢ Rtsl → IsForward v.item.at v.item.instr → KeepsOthers w budget v
    → (why : FrameWhy) → FrameKeeps w budget v why
kept_all w budget v a b h frame.Unmapped = tt
kept_all w budget v a b h frame.Odd = tt
kept_all w budget v a b h frame.ReturnInFrame = a
kept_all w budget v a b h frame.BackJump = b
kept_all w budget v a b h frame.BeamUnknown = h.place
kept_all w budget v a b h frame.ScaleUnknown = h.scale
kept_all w budget v a b h frame.OffScreen = h.shown
kept_all w budget v a b h frame.NoEntry = h.named
kept_all w budget v a b h frame.Budget = h.few

no_return : (i : Item) (p : ℕ) → next_address Frame i ≡ Some p → i.instr ≢ Rtsl
no_return i p next = grind (arith, nat_tests)

forward : (i : Item) (p : ℕ) → next_address Frame i ≡ Some p → IsForward i.at i.instr
forward i p next = grind (arith, nat_tests)

-- ---- fronts

pub front_item : (words : List ℕ) (before after : List Item) (i : Item) → after ≡ i ∷ before → IsFront words after → IsFront words before
front_item words before after i is f = let g = subst (IsFront words) is f in (i.at, g.1.0)

pub extends_same : Extends (λ into before after. after ≡ before)
extends_same = record { front = λ into words before after is f. subst (IsFront words) is f }

pub extends_both : (R S : Adds) → Extends R → Extends S → Extends (Both R S)
extends_both R S h k = record { front = λ into words before after b f. h.front into words before b.0 b.1 (k.front into words b.0 after b.2 f) }

pub extends_piece : (piece : Piece) → Extends (AddsPiece piece)
extends_piece piece = record { front = λ into words before after a f. front_item words before after a.item a.one_more f }

pub extends_jump : (to : ℕ) → Extends (AddsJumpTo to)
extends_jump to = record { front = λ into words before after a f. front_item words before after a.item a.one_more f }

pub extends_row : (row : List Piece) → Extends (AddsRow row)
extends_row [] = extends_same
extends_row (piece ∷ row) = extends_both (AddsPiece piece) (AddsRow row) (extends_piece piece) (extends_row row)

pub extends_times : (R : Adds) → Extends R → (n : ℕ) → Extends (TimesOver n R)
extends_times R h zero = extends_same
extends_times R h (suc n) = extends_both R (TimesOver n R) h (extends_times R h n)

pub extends_part : (part : Part) → Extends (Spells part)
extends_part (Row row) = extends_row row.items
extends_part (Then' p a q b) = extends_both (Spells a) (Spells b) (extends_part a) (extends_part b)
extends_part (Either' p a q b) =
    record {
      front = λ into words before after s f. ⊎_elim (λ x. (extends_part a).front into words before after x f)
          (λ y. (extends_part b).front into words before after y f) s;
    }
extends_part (Repeat' least most p body) =
    record {
      front = λ into words before after t f. (extends_times (Spells body) (extends_part body) t.0).front into words before after t.3
          f;
    }

pub extends_jumps : (jumps : List Jump) → Extends (SpellsJumps jumps)
extends_jumps [] = extends_same
extends_jumps (jump ∷ jumps) = record {
  front = λ into words before after s f.
      (extends_jump jump.area.first).front into words before s.0 s.2
      ((extends_part jump.body).front into words s.0 s.1 s.3 ((extends_jumps jumps).front into words s.1 after s.4 f));
}

-- ---- the last of some

pub row_split : (row : List Piece) (piece : Piece) (into : Leading) (before after : List Item) → AddsRow (row ++ piece ∷ []) into before after
    → Both (AddsRow row) (AddsPiece piece) into before after
row_split [] piece into before after (k, adds, same) = (before, refl, subst (λ l. AddsPiece piece into before l) (sym same) adds)
row_split (first ∷ row) piece into before after (m, adds, rest) = let r = row_split row piece into m after rest in (r.0, (m, adds, r.1), r.2)

abbrev pub JumpPart : Jump → Adds
JumpPart jump = Both (AddsJumpTo jump.area.first) (Spells jump.body)

pub jumps_split : (jumps : List Jump) (jump : Jump) (into : Leading) (before after : List Item)
    → SpellsJumps (jumps ++ jump ∷ []) into before after → Both (SpellsJumps jumps) (JumpPart jump) into before after
jumps_split [] jump into before after (there, between, adds, spelled, same) =
    (before, refl, (there, adds, subst (λ l. Spells jump.body into there l) (sym same) spelled))
jumps_split (first ∷ jumps) jump into before after (there, between, adds, spelled, rest) =
    let r = jumps_split jumps jump into between after rest in (r.0, (there, between, adds, spelled, r.1), r.2)

module _ (R : Adds) where
  pub times_last : (n : ℕ) (into : Leading) (before after : List Item) → TimesOver (suc n) R into before after
      → Both (TimesOver n R) R into before after
  times_last zero into before after (k, first, same) = (before, refl, subst (λ l. R into before l) (sym same) first)
  times_last (suc n) into before after (k, first, rest) = let r = times_last n into k after rest in (r.0, (k, first, r.1), r.2)

module _ (w : Window) (list : List Entry) (budget : ℕ) where
  -- ---- one item

  -- what is known behind one item more, by made entries
  comes_on : (before : List Item) (i : Item) → IsKeyed list (target Frame i.instr) (known_before (frame_context Board list) before).scale
      → ((rom : Rom) → AllMade rom list → ComesTo rom before (known_before (frame_context Board list) before)) → (rom : Rom)
      → AllMade rom list → ComesTo rom (i ∷ before) (known_before (frame_context Board list) (i ∷ before))
  comes_on before i keyed h rom made =
      let k = known_before (frame_context Board list) before in
      (k, callee_at list (target Frame i.instr) k.scale, h rom made, names rom made (target Frame i.instr) keyed, refl)
    where
      names : (rom : Rom) → AllMade rom list → (to : Option ℕ) → IsKeyed list to (known_before (frame_context Board list) before).scale
          → Names rom to (known_before (frame_context Board list) before).scale
          (callee_at list to (known_before (frame_context Board list) before).scale)
      names rom made None keyed = refl
      names rom made (Some to) (e, there) =
          let scale = (known_before (frame_context Board list) before).scale in
          let found : named_entry list to scale ≡ Some e = ap (λ (o : Option Entry). option_or o (entry_at list to Any)) there in
          subst (NamesMade rom to scale) (sym found) (list, made, there)

  pub good_item : (P : Known → Item → Type 0) (here next : List Hull) (words : List ℕ) (before : List Item) (i : Item)
      → LeadOn w list budget P here next → P (known_before (frame_context Board list) before) i → IsFront words (i ∷ before)
      → IsGoodFront w list budget here words before → IsGoodFront w list budget next words (i ∷ before)
  good_item P here next words before i on takes f good =
      let c = frame_context Board list in
      let g = on.each (known_before c before) i good.covered takes (format_there (frame_word Board words) i.at i.format i.instr f.1.1) in
      let rules : (why : FrameWhy) → FrameKeeps w budget (seen_at c before i) why =
      kept_all w budget (seen_at c before i) (no_return i f.0 f.1.2) (forward i f.0 f.1.2) g.keeps in
      record {
        covered = g.covered;
        comes = comes_on before i g.keyed good.comes;
        each = (good.each, good.comes);
        kept = (
          good.kept,
          λ why. subst
              (λ (cell : Cell). CellKeeps frame.Unmapped frame.Odd (λ j. FrameKeeps w budget (seen_at c before j)) i.at cell why)
              (sym f.1.1) (rules why),
        );
      }

  -- ---- one after the other

  pub carries_same : (xs : List Hull) → Carries w list budget (λ into before after. after ≡ before) xs xs
  carries_same xs = record { each = λ words before after is f good. subst (IsGoodFront w list budget xs words) (sym is) good }

  pub carries_both : (R S : Adds) (xs ys zs : List Hull) → Extends S → Carries w list budget R xs ys → Carries w list budget S ys zs
      → Carries w list budget (Both R S) xs zs
  carries_both R S xs ys zs e h k =
      record {
        each = λ words before after b f good. k.each words b.0 after b.2 f
            (h.each words before b.0 b.1 (e.front (KnownInto w list budget words) words b.0 after b.2 f) good);
      }

  pub good_under : (ys zs : List Hull) (words : List ℕ) (items : List Item) → AreUnder ys zs → IsGoodFront w list budget ys words items
      → IsGoodFront w list budget zs words items
  good_under ys zs words items u good = record { covered = u.each _ good.covered; comes = good.comes; each = good.each; kept = good.kept }

  pub carries_under : (R : Adds) (xs ys zs : List Hull) → AreUnder ys zs → Carries w list budget R xs ys → Carries w list budget R xs zs
  carries_under R xs ys zs u h =
      record { each = λ words before after r f good. good_under ys zs words after u (h.each words before after r f good) }

  pub carries_either : (R S : Adds) (xs ys zs : List Hull) → Carries w list budget R xs zs → Carries w list budget S xs zs
      → Carries w list budget (λ into before after. R into before after ⊎ S into before after) xs zs
  carries_either R S xs ys zs h k =
      record {
        each = λ words before after s f good. ⊎_elim (λ r. h.each words before after r f good)
            (λ t. k.each words before after t f good) s;
      }

  pub carries_as : (R S : Adds) (xs ys : List Hull) → ((into : Leading) (before after : List Item) → S into before after → R into before after)
      → Carries w list budget R xs ys → Carries w list budget S xs ys
  carries_as R S xs ys g h =
      record { each = λ words before after s f good. h.each words before after (g (KnownInto w list budget words) before after s) f good }

  -- ---- rows

  -- a draw of the piece behind a good front leads so from what is known
  arrives_here : (words : List ℕ) (kind : PieceKind) (before : List Item) (i : Item) → Takes kind i.format i.instr
      → IsFront words (i ∷ before) → IsSoundFront w list budget words before
      → Arrives (KnownInto w list budget words) kind (i ∷ before) → LeadsIn kind (known_before (frame_context Board list) before) i
  arrives_here words (Place r) before i taken f sound there = tt
  arrives_here words (Call targets) before i taken f sound there = tt
  arrives_here words (Fixed first second) before i taken f sound there = tt
  arrives_here words (Draw r) before i taken f sound there = leads r.to i.instr refl taken.1 there
    where
      leads : (to : Option PlaceSpan) (instr : Instr) → i.instr ≡ instr → TakesDraw r instr
          → IfSome to (λ span. KnownInto w list budget words span (i ∷ before))
          → IfSome to (λ span. IsNotBeside span (known_past Board i None (known_before (frame_context Board list) before)).place)
      leads None instr is t h = tt
      leads (Some span) (Draws d) is t h = h d is f sound
      leads (Some span) Halt is t h = absurd t
      leads (Some span) (Labs x y s) is t h = absurd t
      leads (Some span) (Jsrl to) is t h = absurd t
      leads (Some span) Rtsl is t h = absurd t
      leads (Some span) (Jmpl to) is t h = absurd t

  pub carries_piece : (piece : Piece) (xs ys : List Hull) → LeadOn w list budget (IsTaken piece.kind) xs ys
      → Carries w list budget (AddsPiece piece) xs ys
  carries_piece piece xs ys on = record {
    each = λ words before after a f good.
        let g = subst (IsFront words) a.one_more f in
        subst (IsGoodFront w list budget ys words) (sym a.one_more)
        (good_item (IsTaken piece.kind) xs ys words before a.item on (
          a.taken,
          arrives_here words piece.kind before a.item a.taken g (record { comes = good.comes; kept = good.kept })
              (subst (Arrives (KnownInto w list budget words) piece.kind) a.one_more a.arrives),
        ) g good);
  }

  pub carries_jump : (to : ℕ) (xs ys : List Hull) → LeadOn w list budget IsJump xs ys → Carries w list budget (AddsJumpTo to) xs ys
  carries_jump to xs ys on =
      record {
        each = λ words before after a f good. subst (IsGoodFront w list budget ys words) (sym a.one_more)
            (good_item IsJump xs ys words before a.item on (to, a.jumps) (subst (IsFront words) a.one_more f) good);
      }

  pub carries_row_next : (row : List Piece) (i n : ℕ) (d : Piece) (xs ys zs : List Hull) → n ≡ suc i → i < length row
      → Carries w list budget (AddsRow (take i row)) xs ys → Carries w list budget (AddsPiece (get_or row i d)) ys zs
      → Carries w list budget (AddsRow (take n row)) xs zs
  carries_row_next row i n d xs ys zs is lt h k =
      let more = carries_as (Both (AddsRow (take i row)) (AddsPiece (get_or row i d))) (AddsRow (take i row ++ get_or row i d ∷ [])) xs
      zs (row_split (take i row) (get_or row i d)) (carries_both _ _ xs ys zs (extends_piece (get_or row i d)) h k) in
      subst (λ m. Carries w list budget (AddsRow (take m row)) xs zs) (sym is)
      (subst (λ (l : List Piece). Carries w list budget (AddsRow l) xs zs) (sym (take-suc row i d lt)) more)

  pub carries_row_whole : (row : List Piece) (xs ys : List Hull) (i : ℕ) → length row ≤ i
      → Carries w list budget (AddsRow (take i row)) xs ys → Carries w list budget (AddsRow row) xs ys
  carries_row_whole row xs ys i le h = subst (λ (l : List Piece). Carries w list budget (AddsRow l) xs ys) (take_all i row le) h

  -- ---- jumps

  pub carries_jumps_next : (jumps : List Jump) (i n : ℕ) (d : Jump) (xs ys zs all : List Hull) → n ≡ suc i → i < length jumps
      → Carries w list budget (SpellsJumps (take i jumps)) xs ys → Carries w list budget (AddsJumpTo (get_or jumps i d).area.first) ys zs
      → Carries w list budget (Spells (get_or jumps i d).body) zs all → Carries w list budget (SpellsJumps (take n jumps)) xs all
  carries_jumps_next jumps i n d xs ys zs all is lt h k l =
      let jump = get_or jumps i d in
      let part = carries_both (AddsJumpTo jump.area.first) (Spells jump.body) ys zs all (extends_part jump.body) k l in
      let more = carries_as (Both (SpellsJumps (take i jumps)) (JumpPart jump)) (SpellsJumps (take i jumps ++ jump ∷ [])) xs all
      (jumps_split (take i jumps) jump)
      (carries_both _ (JumpPart jump) xs ys all (extends_both _ _ (extends_jump jump.area.first) (extends_part jump.body)) h part) in
      subst (λ m. Carries w list budget (SpellsJumps (take m jumps)) xs all) (sym is)
      (subst (λ (l : List Jump). Carries w list budget (SpellsJumps l) xs all) (sym (take-suc jumps i d lt)) more)

  -- ---- turns

  module _ (R : Adds) where
    pub turn_next : (n m : ℕ) (xs ys zs : List Hull) → m ≡ suc n → Extends R → Carries w list budget (TimesOver n R) xs ys
        → Carries w list budget R ys zs → Carries w list budget (TimesOver m R) xs zs
    turn_next n m xs ys zs is e h k =
        subst (λ l. Carries w list budget (TimesOver l R) xs zs) (sym is)
        (carries_as (Both (TimesOver n R) R) (TimesOver (suc n) R) xs zs (times_last R n) (carries_both (TimesOver n R) R xs ys zs e h k))

    none : (n : ℕ) (into : Leading) (before after : List Item) → n ≤ 0 → Times n (R into) before after → after ≡ before
    none zero into before after le same = same
    none (suc n) into before after le t = absurd (omega (arith, le))

    pub turns_first : (least : ℕ) (xs ys : List Hull) → AreUnder xs ys → Carries w list budget (Turns least 0 R) xs ys
    turns_first least xs ys u =
        record {
          each = λ words before after t f good. subst (IsGoodFront w list budget ys words)
              (sym (none t.0 (KnownInto w list budget words) before after t.2 t.3)) (good_under xs ys words before u good);
        }

    pub turns_more : (least n m : ℕ) (xs here next more : List Hull) → m ≡ suc n → Carries w list budget (Turns least n R) xs next
        → Carries w list budget (TimesOver m R) xs here → AreUnder next more → AreUnder here more
        → Carries w list budget (Turns least m R) xs more
    turns_more least n m xs here next more is h k u v = record {
      each = λ words before after t f good. ⊎_elim
          (λ less. good_under next more words after u (h.each words before after (t.0, t.1, omega (arith, is, less), t.3) f good))
          (λ same. good_under here more words after v
          (k.each words before after (subst (λ l. Times l (R (KnownInto w list budget words)) before after) (omega (arith, same, t.2)) t.3) f good))
          (cases_lt t.0 m);
    }
