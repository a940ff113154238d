-- What leads from one set of indices to another.
use Rattle.dvg_recipe.proofs.Common.{◌≡◌, ◌<◌, ◌≤◌, ◌⊎◌, ◌++◌, ℕ, zero, suc, List, [], ◌∷◌, Contains, length, take, get_or, refl, sym, subst, inl, inr, ⊎_elim, arith, take-suc, take_all, Contains-append_cases, Contains-append_left, Contains-append_right, Contains-push_cases}
use Rattle.std.proofs.Common.{Result, Ok, Err}
use Rattle.std.specs.Prelude.{slice_set}
use Rattle.std.proofs.Math.Seq.{take-suc-set}
use Rattle.std.proofs.lemmas.List.{length-set, get_or-set_other}
use Rattle.dvg_recipe.proofs.Common.{IfOk, ap, ◌∙◌, ◌+◌}
use Rattle.dvg_recipe.specs.Private.KnownPlaces.{ItemsOver}
use Rattle.dvg_recipe.specs.Recipes.{Area, Piece, Part, Jump, Recipe}
use Rattle.dvg_recipe.specs.Private.Indices.{Leads, Both, IsPast, IsJoined, PieceLeads, RowLeads, PartLeads, JumpLeads, JumpsLead, ListStarts, SomeStarts, AreThose, RecipeLeads}
use Rattle.dvg_recipe.proofs.Sets.{is_alone, alone}

-- ---- sets

pub past_same : (xs : List ℕ) → IsPast (λ i j. j ≡ i) xs xs
past_same xs = record { each = λ j. (λ h. (j, h, refl), λ h. subst (λ n. Contains xs n) (sym h.2) h.1) }

pub past_as : (R S : Leads) (xs ys : List ℕ) → ((i j : ℕ) → R i j → S i j) → ((i j : ℕ) → S i j → R i j) → IsPast R xs ys → IsPast S xs ys
past_as R S xs ys f g h =
    record { each = λ j. (λ there. let r = (h.each j).0 there in (r.0, r.1, f r.0 j r.2), λ s. (h.each j).1 (s.0, s.1, g s.0 j s.2)) }

pub past_from : (R : Leads) (xs others ys : List ℕ) → xs ≡ others → IsPast R xs ys → IsPast R others ys
past_from R xs others ys is h = subst (λ (l : List ℕ). IsPast R l ys) is h

pub past_to : (R : Leads) (xs ys others : List ℕ) → ys ≡ others → IsPast R xs ys → IsPast R xs others
past_to R xs ys others is h = subst (λ (l : List ℕ). IsPast R xs l) is h

pub past_both : (R S : Leads) (xs ys zs : List ℕ) → IsPast R xs ys → IsPast S ys zs → IsPast (Both R S) xs zs
past_both R S xs ys zs h k = record {
  each = λ j. (
    λ there. let s = (k.each j).0 there in let r = (h.each s.0).0 s.1 in (r.0, r.1, (s.0, r.2, s.2)),
    λ b. (k.each j).1 (b.2.0, (h.each b.2.0).1 (b.0, b.1, b.2.1), b.2.2),
  );
}

pub past_either : (R S : Leads) (xs ys zs all : List ℕ) → IsPast R xs ys → IsPast S xs zs → IsJoined ys zs all
    → IsPast (λ i j. R i j ⊎ S i j) xs all
past_either R S xs ys zs all h k join = record {
  each = λ j. (
    λ there. ⊎_elim (λ a. let r = (h.each j).0 a in (r.0, r.1, inl r.2)) (λ b. let s = (k.each j).0 b in (s.0, s.1, inr s.2))
        ((join.each j).0 there),
    λ e. (join.each j).1 (⊎_elim (λ r. inl ((h.each j).1 (e.0, e.1, r))) (λ s. inr ((k.each j).1 (e.0, e.1, s))) e.2),
  );
}

-- ---- one index after another

module _ (R : Leads) (xs ys : List ℕ) (h : IsPast R xs ys) (x : ℕ) where
  past_push : (y : ℕ) → R x y → ((j : ℕ) → R x j → j ≡ y) → IsPast R (xs ++ x ∷ []) (ys ++ y ∷ [])
  past_push y leads only = record {
    each = λ j. (
      λ there. ⊎_elim
          (λ old. let r = (h.each j).0 old in (r.0, Contains-append_left xs (x ∷ []) r.0 r.1, r.2))
          (λ new. (x, Contains-append_right xs (x ∷ []) x (alone x x refl), subst (λ n. R x n) (is_alone y j new) leads))
          (Contains-append_cases ys (y ∷ []) j there),
      λ r. ⊎_elim
          (λ old. Contains-append_left ys (y ∷ []) j ((h.each j).1 (r.0, old, r.2)))
          (λ new. Contains-append_right ys (y ∷ []) j (alone y j (sym (only j (subst (λ n. R n j) (sym (is_alone x r.0 new)) r.2)))))
          (Contains-append_cases xs (x ∷ []) r.0 r.1),
    );
  }

  past_skip : ((j : ℕ) → R x j → ⊥) → IsPast R (xs ++ x ∷ []) ys
  past_skip none = record {
    each = λ j. (
      λ there. let r = (h.each j).0 there in (r.0, Contains-append_left xs (x ∷ []) r.0 r.1, r.2),
      λ r. ⊎_elim (λ old. (h.each j).1 (r.0, old, r.2)) (λ new. absurd (none j (subst (λ n. R n j) (sym (is_alone x r.0 new)) r.2)))
          (Contains-append_cases xs (x ∷ []) r.0 r.1),
    );
  }

module _ (R : Leads) (here ys : List ℕ) (i n d : ℕ) (is : n ≡ suc i) (lt : i < length here) (h : IsPast R (take i here) ys) where
  next_take : take n here ≡ take i here ++ get_or here i d ∷ []
  next_take = subst (λ m. take m here ≡ take i here ++ get_or here i d ∷ []) (sym is) (take-suc here i d lt)

  pub push_next : (x y : ℕ) (more : List ℕ) → x ≡ get_or here i d → more ≡ ys ++ y ∷ [] → R x y → ((j : ℕ) → R x j → j ≡ y)
      → IsPast R (take n here) more
  push_next x y more at grown leads only =
      subst (λ (l : List ℕ). IsPast R l more) (sym next_take)
      (subst (λ (l : List ℕ). IsPast R (take i here ++ get_or here i d ∷ []) l) (sym grown)
      (past_push R (take i here) ys h (get_or here i d) y (subst (λ m. R m y) at leads)
      (λ j r. only j (subst (λ m. R m j) (sym at) r))))

  pub skip_next : (x : ℕ) (more : List ℕ) → x ≡ get_or here i d → more ≡ ys → ((j : ℕ) → R x j → ⊥) → IsPast R (take n here) more
  skip_next x more at same none =
      subst (λ (l : List ℕ). IsPast R l more) (sym next_take)
      (subst (λ (l : List ℕ). IsPast R (take i here ++ get_or here i d ∷ []) l) (sym same)
      (past_skip R (take i here) ys h (get_or here i d) (λ j r. none j (subst (λ m. R m j) (sym at) r))))

-- ---- in place

-- indices that are put one after another to the front of the list that they come from: `passed` of them, from those before a place
module _ (R : Leads) (start here : List ℕ) (place n passed : ℕ) (is : n ≡ suc place) (lt : place < length start) (few : passed ≤ place)
    (long : length here ≡ length start) (same : (k : ℕ) → place ≤ k → get_or here k 0 ≡ get_or start k 0)
    (h : IsPast R (take place start) (take passed here)) where
  pub put_next : (x y p : ℕ) (more : List ℕ) → x ≡ get_or here place 0 → p ≡ suc passed → more ≡ slice_set here passed y → R x y
      → ((j : ℕ) → R x j → j ≡ y)
      → (p ≤ n) × (length more ≡ length start) × ((k : ℕ) → n ≤ k → get_or more k 0 ≡ get_or start k 0)
      × IsPast R (take n start) (take p more)
  put_next x y p more at next stored leads only =
      let room : passed < length here = omega (arith, few, lt, long) in (
        omega (arith, few, is, next),
        ap length stored ∙ length-set here passed y ∙ long,
        λ k from.
            ap (λ (l : List ℕ). get_or l k 0) stored
            ∙ get_or-set_other here passed k y 0 (λ e. omega (arith, few, is, from, e))
            ∙ same k (omega (arith, is, from)),
        push_next R start (take passed here) place n 0 is lt h x y (take p more) (at ∙ same place (omega arith))
            (ap (λ m. take m more) next ∙ ap (λ (l : List ℕ). take (suc passed) l) stored ∙ take-suc-set here passed y room)
            leads only,
      )

  pub put_none : (x p : ℕ) (more : List ℕ) → x ≡ get_or here place 0 → p ≡ passed → more ≡ here → ((j : ℕ) → R x j → ⊥)
      → (p ≤ n) × (length more ≡ length start) × ((k : ℕ) → n ≤ k → get_or more k 0 ≡ get_or start k 0)
      × IsPast R (take n start) (take p more)
  put_none x p more at count stays none = (
    omega (arith, few, is, count),
    ap length stays ∙ long,
    λ k from. ap (λ (l : List ℕ). get_or l k 0) stays ∙ same k (omega (arith, is, from)),
    skip_next R start (take passed here) place n 0 is lt h x (take p more) (at ∙ same place (omega arith))
        (ap (λ m. take m more) count ∙ ap (λ (l : List ℕ). take passed l) stays) none,
  )

-- ---- rows and jumps

row_join : (row : List Piece) (piece : Piece) (items : ItemsOver) (i j : ℕ) → Both (RowLeads row items) (PieceLeads piece items) i j
    → RowLeads (row ++ piece ∷ []) items i j
row_join [] piece items i j (k, same, leads) = (j, subst (λ n. PieceLeads piece items n j) same leads, refl)
row_join (first ∷ row) piece items i j (k, (m, leads, rest), last) = (m, leads, row_join row piece items m j (k, rest, last))

row_split : (row : List Piece) (piece : Piece) (items : ItemsOver) (i j : ℕ) → RowLeads (row ++ piece ∷ []) items i j
    → Both (RowLeads row items) (PieceLeads piece items) i j
row_split [] piece items i j (k, leads, same) = (i, refl, subst (λ n. PieceLeads piece items i n) (sym same) leads)
row_split (first ∷ row) piece items i j (m, leads, rest) = let r = row_split row piece items m j rest in (r.0, (m, leads, r.1), r.2)

pub past_row_next : (row : List Piece) (items : ItemsOver) (i n : ℕ) (d : Piece) (xs ys zs : List ℕ) → n ≡ suc i → i < length row
    → IsPast (RowLeads (take i row) items) xs ys → IsPast (PieceLeads (get_or row i d) items) ys zs
    → IsPast (RowLeads (take n row) items) xs zs
past_row_next row items i n d xs ys zs is lt h k =
    let more = past_as _ (RowLeads (take i row ++ get_or row i d ∷ []) items) xs zs (row_join (take i row) (get_or row i d) items)
    (row_split (take i row) (get_or row i d) items) (past_both _ _ xs ys zs h k) in
    subst (λ m. IsPast (RowLeads (take m row) items) xs zs) (sym is)
    (subst (λ (l : List Piece). IsPast (RowLeads l items) xs zs) (sym (take-suc row i d lt)) more)

-- a row up to a piece, from its pieces before and from that one
module _ (row : List Piece) (items : ItemsOver) (n m : ℕ) (d : Piece) (is : m ≡ suc n) (lt : n < length row) where
  up_to : take m row ≡ take n row ++ get_or row n d ∷ []
  up_to = subst (λ l. take l row ≡ take n row ++ get_or row n d ∷ []) (sym is) (take-suc row n d lt)

  pub row_next : (i j k : ℕ) → RowLeads (take n row) items i j → PieceLeads (get_or row n d) items j k → RowLeads (take m row) items i k
  row_next i j k before leads =
      subst (λ (l : List Piece). RowLeads l items i k) (sym up_to) (row_join (take n row) (get_or row n d) items i k (j, before, leads))

  pub row_last : (i j : ℕ) → RowLeads (take m row) items i j → Both (RowLeads (take n row) items) (PieceLeads (get_or row n d) items) i j
  row_last i j leads =
      row_split (take n row) (get_or row n d) items i j (subst (λ (l : List Piece). RowLeads l items i j) up_to leads)

-- a row's first pieces
pub row_front : (n : ℕ) (row : List Piece) (items : ItemsOver) (i j : ℕ) → RowLeads row items i j
    → (k : ℕ) × RowLeads (take n row) items i k
row_front zero row items i j leads = (i, refl)
row_front (suc n) [] items i j leads = (i, refl)
row_front (suc n) (piece ∷ row) items i j (m, first, rest) = let r = row_front n row items m j rest in (r.0, (m, first, r.1))

-- a jump and its part
abbrev pub JumpPart : Jump → ItemsOver → Leads
JumpPart jump items i j = Both (JumpLeads jump.area.first items) (PartLeads jump.body items) i j

jumps_join : (jumps : List Jump) (jump : Jump) (items : ItemsOver) (i j : ℕ) → Both (JumpsLead jumps items) (JumpPart jump items) i j
    → JumpsLead (jumps ++ jump ∷ []) items i j
jumps_join [] jump items i j (k, same, (m, leads, part)) = (m, subst (λ n. JumpLeads jump.area.first items n m) same leads, (j, part, refl))
jumps_join (first ∷ jumps) jump items i j (k, (m, leads, (l, part, rest)), last) =
    (m, leads, (l, part, jumps_join jumps jump items l j (k, rest, last)))

jumps_split : (jumps : List Jump) (jump : Jump) (items : ItemsOver) (i j : ℕ) → JumpsLead (jumps ++ jump ∷ []) items i j
    → Both (JumpsLead jumps items) (JumpPart jump items) i j
jumps_split [] jump items i j (m, leads, (k, part, same)) =
    (i, refl, (m, leads, subst (λ n. PartLeads jump.body items m n) (sym same) part))
jumps_split (first ∷ jumps) jump items i j (m, leads, (l, part, rest)) =
    let r = jumps_split jumps jump items l j rest in (r.0, (m, leads, (l, part, r.1)), r.2)

pub past_jumps_next : (jumps : List Jump) (items : ItemsOver) (i n : ℕ) (d : Jump) (xs ys zs all : List ℕ) → n ≡ suc i → i < length jumps
    → IsPast (JumpsLead (take i jumps) items) xs ys → IsPast (JumpLeads (get_or jumps i d).area.first items) ys zs
    → IsPast (PartLeads (get_or jumps i d).body items) zs all → IsPast (JumpsLead (take n jumps) items) xs all
past_jumps_next jumps items i n d xs ys zs all is lt h k l =
    let more = past_as _ (JumpsLead (take i jumps ++ get_or jumps i d ∷ []) items) xs all
    (jumps_join (take i jumps) (get_or jumps i d) items) (jumps_split (take i jumps) (get_or jumps i d) items)
    (past_both _ (JumpPart (get_or jumps i d) items) xs ys all h (past_both _ _ ys zs all k l)) in
    subst (λ m. IsPast (JumpsLead (take m jumps) items) xs all) (sym is)
    (subst (λ (l : List Jump). IsPast (JumpsLead l items) xs all) (sym (take-suc jumps i d lt)) more)

-- ---- all of a list

pub past_whole : (R : Leads) (here ys : List ℕ) (i : ℕ) → length here ≤ i → IsPast R (take i here) ys → IsPast R here ys
past_whole R here ys i le h = subst (λ (l : List ℕ). IsPast R l ys) (take_all i here le) h

pub row_whole : (row : List Piece) (items : ItemsOver) (xs ys : List ℕ) (i : ℕ) → length row ≤ i
    → IsPast (RowLeads (take i row) items) xs ys → IsPast (RowLeads row items) xs ys
row_whole row items xs ys i le h = subst (λ (l : List Piece). IsPast (RowLeads l items) xs ys) (take_all i row le) h

pub jumps_whole : (jumps : List Jump) (items : ItemsOver) (xs ys : List ℕ) (i : ℕ) → length jumps ≤ i
    → IsPast (JumpsLead (take i jumps) items) xs ys → IsPast (JumpsLead jumps items) xs ys
jumps_whole jumps items xs ys i le h = subst (λ (l : List Jump). IsPast (JumpsLead l items) xs ys) (take_all i jumps le) h

-- ---- parts

pub part_to : (a b : Part) (items : ItemsOver) (xs ys : List ℕ) → a ≡ b → IsPast (PartLeads a items) xs ys
    → IsPast (PartLeads b items) xs ys
part_to a b items xs ys is h = subst (λ (p : Part). IsPast (PartLeads p items) xs ys) is h

pub piece_to : (a b : Piece) (items : ItemsOver) (xs ys : List ℕ) → a ≡ b → IsPast (PieceLeads a items) xs ys
    → IsPast (PieceLeads b items) xs ys
piece_to a b items xs ys is h = subst (λ (p : Piece). IsPast (PieceLeads p items) xs ys) is h

-- ---- lists

module _ (lists : List Area) (items : ItemsOver) (i n : ℕ) (d : Area) (here : List ℕ) (is : n ≡ suc i) (lt : i < length lists)
    (h : AreThose (SomeStarts (take i lists) items) here) where
  cases : (area : Area) → Contains (take n lists) area → Contains (take i lists) area ⊎ (get_or lists i d ≡ area)
  cases area there =
      Contains-push_cases (take i lists) (get_or lists i d) area
      (subst (λ (l : List Area). Contains l area) (take-suc lists i d lt) (subst (λ m. Contains (take m lists) area) is there))

  old : (area : Area) → Contains (take i lists) area → Contains (take n lists) area
  old area there =
      subst (λ m. Contains (take m lists) area) (sym is)
      (subst (λ (l : List Area). Contains l area) (sym (take-suc lists i d lt))
      (Contains-append_left (take i lists) (get_or lists i d ∷ []) area there))

  new : Contains (take n lists) (get_or lists i d)
  new = subst (λ m. Contains (take m lists) (get_or lists i d)) (sym is)
      (subst (λ (l : List Area). Contains l (get_or lists i d)) (sym (take-suc lists i d lt))
      (Contains-append_right (take i lists) (get_or lists i d ∷ []) (get_or lists i d) (zero, omega arith, refl)))

  pub starts_add : (x : ℕ) (more : List ℕ) → ListStarts (get_or lists i d).first items x
      → ((j : ℕ) → ListStarts (get_or lists i d).first items j → j ≡ x) → IsJoined here (x ∷ []) more
      → AreThose (SomeStarts (take n lists) items) more
  starts_add x more starts only join = record {
    each = λ j. (
      λ there. ⊎_elim
          (λ a. let s = (h.each j).0 a in record { area = s.area; listed = old s.area s.listed; starts = s.starts })
          (λ b. record {
            area = get_or lists i d;
            listed = new;
            starts =
                subst (λ m. ListStarts (get_or lists i d).first items m) (is_alone x j b) starts;
          })
          ((join.each j).0 there),
      λ s. (join.each j).1 (⊎_elim
          (λ a. inl ((h.each j).1 (record { area = s.area; listed = a; starts = s.starts })))
          (λ b. inr (alone x j (sym (only j (subst (λ (area : Area). ListStarts area.first items j) (sym b) s.starts)))))
          (cases s.area s.listed)),
    );
  }

  pub starts_skip : (more : List ℕ) → more ≡ here → ((j : ℕ) → ListStarts (get_or lists i d).first items j → ⊥)
      → AreThose (SomeStarts (take n lists) items) more
  starts_skip more same none = record {
    each = λ j. (
      λ there. let s =
          (h.each j).0 (subst (λ (l : List ℕ). Contains l j) same there) in
          record { area = s.area; listed = old s.area s.listed; starts = s.starts },
      λ s. ⊎_elim
          (λ a. subst (λ (l : List ℕ). Contains l j) (sym same) ((h.each j).1 (record { area = s.area; listed = a; starts = s.starts })))
          (λ b. absurd (none j (subst (λ (area : Area). ListStarts area.first items j) (sym b) s.starts)))
          (cases s.area s.listed),
    );
  }

-- ---- the whole recipe

pub those_of : (a b : List Area) (items : ItemsOver) (here : List ℕ) → a ≡ b → AreThose (SomeStarts a items) here
    → AreThose (SomeStarts b items) here
those_of a b items here is h = subst (λ (l : List Area). AreThose (SomeStarts l items) here) is h

pub recipe_those : (recipe : Recipe) (items : ItemsOver) (here between after : List ℕ) → AreThose (SomeStarts recipe.lists items) here
    → IsPast (PartLeads recipe.body items) here between → IsPast (JumpsLead recipe.jumps items) between after
    → AreThose (RecipeLeads recipe items) after
recipe_those recipe items here between after h k l =
    let m = past_both _ _ here between after k l in
    record {
      each = λ j. (
        λ there. let r = (m.each j).0 there in record { start = r.0; starts = (h.each r.0).0 r.1; spelled = r.2 },
        λ r. (m.each j).1 (r.start, (h.each r.start).1 r.starts, r.spelled),
      );
    }

-- what holds of a value holds of it in another way
pub if_ok_on : {X Y : Type 0} → (r : Result X Y) (P Q : X → Type 0) → ((x : X) → P x → Q x) → IfOk r P → IfOk r Q
if_ok_on (Ok x) P Q h k = h x k
if_ok_on (Err e) P Q h k = tt

pub if_ok_both : {X Y : Type 0} → (r : Result X Y) (P Q : X → Type 0) → IfOk r P → IfOk r Q → IfOk r (λ x. P x × Q x)
if_ok_both (Ok x) P Q h k = (h, k)
if_ok_both (Err e) P Q h k = tt
