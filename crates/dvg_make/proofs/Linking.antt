-- The shapes in the making, each of which calls or tail jumps to the next.
use Rattle.dvg_make.proofs.Common.{◌≡◌, ℕ, List, [], ◌∷◌, ◌++◌, refl, sym, ap, ◌∙◌, Rom, Entry, Key, PartialEntry, ShapeAt, keyed_context, shape_of, Extends, shapes, arith, Precedes, IsLinked, last_shape, AreLinked, ◌↔◌}
use Rattle.dvg_make.proofs.Onward.{fine_taken}
use Rattle.dvg_make.proofs.Merging.{known_grows, taken_grows}

-- ---- a list that has more

module _ (rom : Rom) (a b : List Entry) (ext : Extends a b) where
  linked_grows : (shape : ShapeAt) (chain : List ShapeAt) → IsLinked rom a shape chain → IsLinked rom b shape chain
  linked_grows shape [] h = tt
  linked_grows shape (next ∷ chain) h = grind (arith, taken_grows, known_grows, fine_taken, keyed_context, (linked_grows next chain h.1))

  pub are_grown : (root : ℕ × Key) (stack : List PartialEntry) → AreLinked rom a root stack → AreLinked rom b root stack
  are_grown root stack h = grind (arith, linked_grows, shape_of, shapes)

-- ---- the last of them

pub links_push : (stack : List PartialEntry) (w : PartialEntry) → shapes (stack ++ w ∷ []) ≡ shapes stack ++ shape_of w ∷ []
links_push [] w = refl
links_push (v ∷ stack) w = ap (λ l. shape_of v ∷ l) (links_push stack w)

pub last_push : (shape next : ShapeAt) (chain : List ShapeAt) → last_shape shape (chain ++ next ∷ []) ≡ next
last_push shape next [] = refl
last_push shape next (other ∷ chain) = last_push other next chain

module _ (rom : Rom) (list : List Entry) where
  linked_last : (shape next : ShapeAt) (chain : List ShapeAt)
      → IsLinked rom list shape (chain ++ next ∷ []) ↔ (IsLinked rom list shape chain × Precedes rom list (last_shape shape chain) next)
  linked_last shape next [] = (λ h. (tt, h.0), λ h. (h.1, tt))
  linked_last shape next (other ∷ chain) =
      let r = linked_last other next chain in (λ h. let x = r.0 h.1 in ((h.0, x.0), x.1), λ h. (h.0.0, r.1 (h.0.1, h.1)))

  pub are_popped : (root : ℕ × Key) (stack : List PartialEntry) (w : PartialEntry) → AreLinked rom list root (stack ++ w ∷ [])
      → AreLinked rom list root stack
  are_popped root stack w h = grind (arith, linked_last, shape_of, shapes, links_push)

  -- the last of them went further
  pub are_moved : (root : ℕ × Key) (stack : List PartialEntry) (w new : PartialEntry) → shape_of w ≡ shape_of new
      → AreLinked rom list root (stack ++ w ∷ []) → AreLinked rom list root (stack ++ new ∷ [])
  are_moved root [] w new e h = (sym e ∙ h.0, tt)
  are_moved root (v ∷ stack) w new e h = grind (arith, shape_of, links_push, shapes)

  -- and calls one more
  pub are_pushed : (root : ℕ × Key) (stack : List PartialEntry) (w next : PartialEntry) → Precedes rom list (shape_of w) (shape_of next)
      → AreLinked rom list root (stack ++ w ∷ []) → AreLinked rom list root ((stack ++ w ∷ []) ++ next ∷ [])
  are_pushed root [] w next p h = (h.0, (p, tt))
  are_pushed root (v ∷ stack) w next p h = grind (arith, shape_of, links_push, linked_last, shapes, last_push)
