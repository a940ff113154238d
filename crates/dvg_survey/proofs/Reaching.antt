-- Which item of a shape reaches as far as its entry's box, and the stroke that is found from one shape to the next.
use Rattle.dvg_survey.proofs.Common.{◌≡◌, ◌↔◌, Bool, false, ℕ, suc, ◌+◌, ◌-◌, ◌<◌, ◌≤◌, List, [], ◌∷◌, ◌++◌, Option, Some, None, inl, inr, refl, sym, ap, ◌∙◌, subst, arith, Rom, Entry, Item, Shape, Seen, Point, IsClaim, IsCertificate, MemoryMap, Contains, Context, shape_context, target, scale_before, listed_claim, named_listed, Comes, comes_on, lit_points, relative_corners, IfSome, IfNone, LitBox}
use Rattle.std.specs.Prelude.{IsTrue}
use Rattle.dvg_check.specs.declared.leaving.Edge.{Edge}
use Rattle.dvg_survey.specs.Furthest.{Reaches, FirstReaches, NoneReaches, IsLitDraw, FindsStroke}

-- of points in two lists, where none is on the side
none_append : (edge : Edge) (box : LitBox) (ps qs : List Point) → (Reaches edge box ps → ⊥) → (Reaches edge box qs → ⊥)
    → Reaches edge box (ps ++ qs) → ⊥
none_append edge box [] qs first second r = second r
none_append edge box (p ∷ ps) qs first second (inl here) = first (inl here)
none_append edge box (p ∷ ps) qs first second (inr there) = none_append edge box ps qs (λ r. first (inr r)) second there

-- what a test that fails says
pub not_so : {P : Type 0} (b : Bool) → b ≡ false → IsTrue b ↔ P → P → ⊥
not_so b is iff p = grind (arith)

-- ---- one shape

module _ (rom : Rom) (list : List Entry) (edge : Edge) (e : Entry) where
  abbrev here_in : Context
  here_in = shape_context rom.machine list e

  -- none of these items does
  abbrev pub NotSoFar : List Item → Type 0
  NotSoFar items = Reaches edge e.lit (lit_points here_in items) → ⊥

  pub none_on : (given : List Seen) (v : Seen) → Comes here_in NotSoFar given
      → (Reaches edge e.lit (relative_corners v.extent v.place) → ⊥)
      → Comes here_in NotSoFar (given ++ v ∷ [])
  none_on given v none not =
      comes_on here_in NotSoFar NotSoFar given v none
      (λ items i is p. none_append edge e.lit _ _ (subst (λ (x : Seen). Reaches edge e.lit (relative_corners x.extent x.place) → ⊥) is not) p)

-- an item that lights something and calls nothing is a lit draw
pub draws_lit : (rom : Rom) (list : List Entry) (edge : Edge) (e : Entry) (v : Seen) → FirstReaches rom list edge e v → v.callee ≡ None
    → IsLitDraw v.item.instr
draws_lit rom list edge e v f none = grind (arith)

-- ---- one shape below another

module _ (rom : Rom) (list : List Entry) (edge : Edge) (e : Entry) (most : ℕ) where
  -- so many shapes lead down from the entry to the last one, and what is found from there is found from the entry
  pub record Down (last : Entry) (count : ℕ) : Type 0 where
    pub claim : IsClaim last
    pub goes : (left : ℕ) (found : Option Item) → left + count ≡ most → FindsStroke left rom list edge last found
        → FindsStroke most rom list edge e found

  pub starts_down : (map : MemoryMap) → IsCertificate map list → Contains list e → Down e 0
  starts_down map some listed =
      record {
        claim = listed_claim list e (map, some) listed;
        goes =
            λ left found all f. subst (λ (n : ℕ). FindsStroke n rom list edge e found) (omega (arith, all)) f;
      }

  module _ (last : Entry) (count : ℕ) (down : Down last count) where
    pub one_down : (map : MemoryMap) (v : Seen) (called : Entry) → IsCertificate map list → FirstReaches rom list edge last v
        → v.callee ≡ Some called → Down called (count + 1)
    one_down map v called some first is =
        record {
          claim = listed_claim list called (map, some)
              (named_listed list (target Shape v.item.instr) (scale_before (shape_context rom.machine list last) first.earlier) called
              (sym (ap (λ (x : Seen). x.callee) first.seen) ∙ is));
          goes = λ left found all f. down.goes (suc left) found (omega (arith, all))
              (inr (
                v,
                first,
                subst (λ o. IfSome o (λ c. FindsStroke left rom list edge c found)) (sym is) f,
                subst (λ o. IfNone o (IsLitDraw v.item.instr × (found ≡ Some v.item))) (sym is) tt,
              ));
        }

    pub ends_here : count < most → (v : Seen) → FirstReaches rom list edge last v → v.callee ≡ None
        → FindsStroke most rom list edge e (Some v.item)
    ends_here lt v first is =
        down.goes (suc (most - suc count)) (Some v.item) (omega (arith, lt))
        (inr (
          v,
          first,
          subst (λ o. IfSome o (λ c. FindsStroke (most - suc count) rom list edge c (Some v.item))) (sym is) tt,
          subst (λ o. IfNone o (IsLitDraw v.item.instr × (Some v.item ≡ Some v.item))) (sym is)
              (draws_lit rom list edge last v first is, refl),
        ))

    pub no_further : count < most → NoneReaches rom list edge last → FindsStroke most rom list edge e None
    no_further lt none = down.goes (suc (most - suc count)) None (omega (arith, lt)) (inl (none, refl))

    pub no_more : most ≤ count → count ≤ most → FindsStroke most rom list edge e None
    no_more ge le = down.goes 0 None (omega (arith, ge, le)) refl
