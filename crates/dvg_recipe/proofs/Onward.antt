-- What leads on over the parts, the jumps and the lists of a recipe.
use Rattle.dvg_recipe.proofs.Sounds.{next_listed}
use Rattle.dvg_recipe.proofs.Common.{◌≡◌, ◌⊎◌, ◌≤◌, ◌<◌, ℕ, zero, suc, List, [], ◌∷◌, length, take, get_or, take-suc, take_all, refl, sym, subst, ⊎_elim, arith, Contains, Contains-append_cases}
use Rattle.dvg_check.proofs.Common.{Window, Entry, Item, ◌≢◌}
use Rattle.dvg_recipe.specs.Limits.{PartFits, JumpsFit, MOST_LEVELS, MOST_NESTED}
use Rattle.dvg_recipe.specs.Recipes.{Part, Piece, Jump, Area, AddsRow, AddsJump, Spells, SpellsJumps, Times, BeginsAt}
use Rattle.dvg_recipe.specs.Private.Hulls.{Hull, AreUnder, LeadOn}
use Rattle.dvg_recipe.specs.Private.Judging.{Adds, Both, TimesOver, Turns, IsTaken, IsJump, IsFront, IsGoodFront, KnownInto, Carries, IsFirst, AreListStarts, IsCounted}
use Rattle.dvg_recipe.proofs.Judging.{extends_part, good_under, carries_same, carries_row_whole, carries_both, carries_under, carries_either, good_item, carries_piece, carries_jump, carries_row_next, turn_next, turns_more, carries_jumps_next}

-- ---- hulls behind hulls

module _ (w : Window) (list : List Entry) (budget : ℕ) where
  pub part_as : (part other : Part) (xs ys : List Hull) → part ≡ other → Carries w list budget (Spells part) xs ys
      → Carries w list budget (Spells other) xs ys
  part_as part other xs ys is h = subst (λ (p : Part). Carries w list budget (Spells p) xs ys) is h

  pub from_as : (R : Adds) (xs ys zs : List Hull) → xs ≡ ys → Carries w list budget R xs zs → Carries w list budget R ys zs
  from_as R xs ys zs is h = subst (λ (l : List Hull). Carries w list budget R l zs) is h

  pub row_next : (row : List Piece) (i n : ℕ) (d : Piece) (xs ys zs : List Hull) → n ≡ suc i → i < length row
      → Carries w list budget (AddsRow (take i row)) xs ys → LeadOn w list budget (IsTaken (get_or row i d).kind) ys zs
      → Carries w list budget (AddsRow (take n row)) xs zs
  row_next row i n d xs ys zs is lt h on =
      carries_row_next w list budget row i n d xs ys zs is lt h (carries_piece w list budget (get_or row i d) ys zs on)

  pub row_one : (row : List Piece) (d : Piece) (xs ys : List Hull) → length row ≡ 1
      → LeadOn w list budget (IsTaken (get_or row 0 d).kind) xs ys → Carries w list budget (AddsRow row) xs ys
  row_one row d xs ys one on =
      carries_row_whole w list budget row xs ys 1 (omega (arith, one))
      (row_next row 0 1 d xs xs ys refl (omega (arith, one)) (carries_same w list budget xs) on)

  pub behind_under : (R : Adds) (xs ys all : List Hull) → AreUnder ys all → Carries w list budget R xs ys → Carries w list budget R xs all
  behind_under R xs ys all u h = carries_under w list budget R xs ys all u h

  pub then_both : (a b : Part) (xs ys zs : List Hull) → Carries w list budget (Spells a) xs ys → Carries w list budget (Spells b) ys zs
      → Carries w list budget (Both (Spells a) (Spells b)) xs zs
  then_both a b xs ys zs h k = carries_both w list budget (Spells a) (Spells b) xs ys zs (extends_part b) h k

  pub either_one : (R S : Adds) (xs ys zs all : List Hull) → AreUnder ys all → AreUnder zs all → Carries w list budget R xs ys
      → Carries w list budget S xs zs → Carries w list budget (λ into before after. R into before after ⊎ S into before after) xs all
  either_one R S xs ys zs all u v h k =
      carries_either w list budget R S xs xs all (carries_under w list budget R xs ys all u h) (carries_under w list budget S xs zs all v k)

  module _ (body : Part) where
    pub one_turn : (n m : ℕ) (xs ys zs : List Hull) → m ≡ suc n → Carries w list budget (TimesOver n (Spells body)) xs ys
        → Carries w list budget (Spells body) ys zs → Carries w list budget (TimesOver m (Spells body)) xs zs
    one_turn n m xs ys zs is h k = turn_next w list budget (Spells body) n m xs ys zs is (extends_part body) h k

    pub times_none : (xs ys : List Hull) → xs ≡ ys → Carries w list budget (TimesOver 0 (Spells body)) xs ys
    times_none xs ys is =
        subst (λ (l : List Hull). Carries w list budget (TimesOver 0 (Spells body)) xs l) is (carries_same w list budget xs)

    pub least_turns : (least : ℕ) (xs ys zs : List Hull) → AreUnder ys zs → Carries w list budget (TimesOver least (Spells body)) xs ys
        → Carries w list budget (Turns least least (Spells body)) xs zs
    least_turns least xs ys zs u h =
        carries_under w list budget (Turns least least (Spells body)) xs ys zs u
        (record {
          each = λ words before after t f good. h.each words before after
              (subst (λ n. Times n (Spells body (KnownInto w list budget words)) before after) (omega (arith, t.1, t.2)) t.3) f good;
        })

    pub more_turns : (least n m : ℕ) (xs here next more : List Hull) → m ≡ suc n
        → Carries w list budget (Turns least n (Spells body)) xs next → Carries w list budget (TimesOver m (Spells body)) xs here
        → AreUnder next more → AreUnder here more → Carries w list budget (Turns least m (Spells body)) xs more
    more_turns least n m xs here next more is h k u v = turns_more w list budget (Spells body) least n m xs here next more is h k u v

  pub jumps_next : (jumps : List Jump) (i n : ℕ) (d : Jump) (xs ys zs all : List Hull) → n ≡ suc i → i < length jumps
      → Carries w list budget (SpellsJumps (take i jumps)) xs ys → LeadOn w list budget IsJump ys zs
      → Carries w list budget (Spells (get_or jumps i d).body) zs all → Carries w list budget (SpellsJumps (take n jumps)) xs all
  jumps_next jumps i n d xs ys zs all is lt h on k =
      carries_jumps_next w list budget jumps i n d xs ys zs all is lt h
      (carries_jump w list budget (get_or jumps i d).area.first ys zs on) k

-- ---- where lists begin

pub begins_here : (n : ℕ) (items : List Item) → n ≡ 0 → BeginsAt n items → items ≡ []
begins_here zero items is h = h
begins_here (suc n) items is h = absurd (omega (arith, is))

pub begins_there : (n : ℕ) (items : List Item) → n ≢ 0 → BeginsAt n items → AddsJump n [] items
begins_there zero items not h = absurd (not refl)
begins_there (suc n) items not h = h

pub only_area : (a b : Area) → Contains (a ∷ []) b → a ≡ b
only_area a b (zero, lt, is) = is
only_area a b (suc k, lt, is) = absurd (omega (arith, lt))

module _ (w : Window) (list : List Entry) (budget : ℕ) where
  good_start : (h : Hull) (words : List ℕ) → IsFirst h → IsGoodFront w list budget (h ∷ []) words []
  good_start h words first = record { covered = first; comes = λ rom made. refl; each = tt; kept = tt }

  pub starts_none : (areas : List Area) (here : List Hull) → AreListStarts w list budget (take 0 areas) here
  starts_none areas here = record { each = λ words items b f. absurd (omega (arith, b.1.1)) }

  pub starts_more : (areas : List Area) (i n : ℕ) (d : Area) (here there more : List Hull) → n ≡ suc i → i < length areas
      → AreListStarts w list budget (take i areas) here → AreUnder here more → AreListStarts w list budget (get_or areas i d ∷ []) there
      → AreUnder there more → AreListStarts w list budget (take n areas) more
  starts_more areas i n d here there more is lt h under new over = record {
    each = λ words items b f. ⊎_elim (λ old. good_under w list budget here more words items under (h.each words items (b.0, old, b.2) f))
        (λ last. good_under w list budget there more words items over (new.each words items (b.0, last, b.2) f))
        (Contains-append_cases (take i areas) (get_or areas i d ∷ []) b.0
        (subst (λ (l : List Area). Contains l b.0) (take-suc areas i d lt) (subst (λ m. Contains (take m areas) b.0) is b.1)));
  }

  pub starts_here : (area : Area) (h : Hull) (more : List Hull) → area.first ≡ 0 → IsFirst h → AreUnder (h ∷ []) more
      → AreListStarts w list budget (area ∷ []) more
  starts_here area h more is known under = record {
    each = λ words items b f.
        good_under w list budget (h ∷ []) more words items under
        (subst (IsGoodFront w list budget (h ∷ []) words)
        (sym (begins_here area.first items is (subst (λ (a : Area). BeginsAt a.first items) (sym (only_area area b.0 b.1)) b.2)))
        (good_start h words known));
  }

  pub starts_there : (area : Area) (h : Hull) (there : List Hull) → area.first ≢ 0 → IsFirst h
      → LeadOn w list budget IsJump (h ∷ []) there → AreListStarts w list budget (area ∷ []) there
  starts_there area h there not known on = record {
    each = λ words items b f.
        let a = begins_there area.first items not (subst (λ (a : Area). BeginsAt a.first items) (sym (only_area area b.0 b.1)) b.2) in
        subst (IsGoodFront w list budget there words) (sym a.one_more)
        (good_item w list budget IsJump (h ∷ []) there words [] a.item on (area.first, a.jumps) (subst (IsFront words) a.one_more f)
        (good_start h words known));
  }

  pub starts_whole : (areas : List Area) (here : List Hull) (i : ℕ) → length areas ≤ i → AreListStarts w list budget (take i areas) here
      → AreListStarts w list budget areas here
  starts_whole areas here i le h = subst (λ (l : List Area). AreListStarts w list budget l here) (take_all i areas le) h

-- ---- counts

only_hull : (a b : Hull) → Contains (a ∷ []) b → a ≡ b
only_hull a b (zero, lt, is) = is
only_hull a b (suc k, lt, is) = absurd (omega (arith, lt))

pub counts_next : (here : List Hull) (i n : ℕ) (d : Hull) (words depth more deeper : ℕ) → n ≡ suc i → i < length here → d ≡ get_or here i d
    → words ≤ more → depth ≤ deeper → IsCounted more deeper d
    → ((h : Hull) → Contains (take i here) h → IsCounted words depth h) → (h : Hull) → Contains (take n here) h → IsCounted more deeper h
counts_next here i n d words depth more deeper is lt at le deep new old h there =
    ⊎_elim (λ c. let e = old h c in record { count = omega (arith, e.count, le); shallow = omega (arith, e.shallow, deep) })
    (λ last. subst (IsCounted more deeper) (only_hull d h last) new)
    (Contains-append_cases (take i here) (d ∷ []) h (next_listed here i n d h is lt at there))

-- ---- the parts of a recipe

pub jumps_within : (jumps : List Jump) (word n m : ℕ) → JumpsFit jumps word n m → (jump : Jump) → Contains jumps jump
    → PartFits MOST_LEVELS MOST_NESTED jump.body
jumps_within [] word n m h jump (k, lt, is) = absurd (omega (arith, lt))
jumps_within (first ∷ jumps) word n m (k, fits, numbered, rest) jump (zero, lt, is) =
    subst (λ (j : Jump). PartFits MOST_LEVELS MOST_NESTED j.body) is fits.body
jumps_within (first ∷ jumps) word n m (k, fits, numbered, rest) jump (suc i, lt, is) =
    jumps_within jumps (suc first.area.last) k m rest jump (i, omega (arith, lt), is)
