-- What is marked when the frame's items were gone over, and past each shape.
use Rattle.std.specs.Prelude.{◌≡◌, ◌⊎◌, ℕ, zero, suc, List, [], ◌∷◌, length, Some, Bool, true, false, replicate, Contains, slice_get, refl}
use Rattle.std.proofs.Common.{inl, inr}
use Rattle.dvg_words.specs.Memory.{Rom, frame_word, rom_word}
use Rattle.dvg_words.specs.Values.{Source}
use Rattle.dvg_items.specs.Known.{frame_context, shape_context}
use Rattle.dvg_make.proofs.Common.{arith, sym, ap, subst, ◌∙◌, ⊎_elim, Entry, entry_at, Contains-append_cases}
use Rattle.dvg_kept.specs.Private.Marks.{AllAskedMarked, Asks, IsCalled, IsMarked, IsMarking, IsNothing, Marks, MarksMore, Place, Takes, Waits, context_of, frame_start, shape_start}
use Rattle.dvg_kept.specs.Private.Leaves.{AreLeaves}
use Rattle.dvg_kept.proofs.LeafItems.{leaf_asked}
use Rattle.dvg_kept.proofs.Picking.{none_there}

same_at : (list : List Entry) (q : ℕ) (e f : Entry) → slice_get list q ≡ Some e → slice_get list q ≡ Some f → e ≡ f
same_at list q e f h k = let both : Some e ≡ Some f = sym h ∙ k in cc

unmarked : (n q : ℕ) → slice_get (replicate n false) q ≡ Some true → ⊥
unmarked zero q h = none_there q true h
unmarked (suc n) zero h = cc
unmarked (suc n) (suc q) h = unmarked n q h

length-replicate : (n : ℕ) → length (replicate n false) ≡ n
length-replicate zero = refl
length-replicate (suc n) = ap suc (length-replicate n)

-- what is marked stays so
module _ (list : List Entry) (m new : Marks) (kept : (q : ℕ) → slice_get m.marked q ≡ Some true → slice_get new.marked q ≡ Some true) where
  marked_on : (e : Entry) → IsMarked list m e → IsMarked list new e
  marked_on e h = (h.0, kept h.0 h.1, h.2)

  all_on : (source : Source) (p : Place) → AllAskedMarked source list p m → AllAskedMarked source list p new
  all_on source p h to scale a = let f = h to scale a in (f.0, f.1, marked_on f.0 f.2)

  called_on : (rom : Rom) (words : List ℕ) (e : Entry) → IsCalled rom words list m e → IsCalled rom words list new e
  called_on rom words e h = ⊎_elim (λ a. inl a) (λ f. inr (f.0, marked_on f.0 f.1, f.2)) h

module _ (rom : Rom) (words : List ℕ) (list : List Entry) (leaves : List Bool) (are : AreLeaves rom leaves) where
  -- what need not wait calls nothing
  spared : (m : Marks) (e f : Entry) → f ≡ e → slice_get leaves f.addr ≡ Some true → AllAskedMarked (rom_word rom) list (shape_start e) m
  spared m e f same h = leaf_asked rom list e m (are e.addr (subst (λ (x : Entry). slice_get leaves x.addr ≡ Some true) same h))

  -- past the frame's items
  pub begins : (nothing m : Marks) → IsNothing (length list) nothing
      → MarksMore list leaves (Asks (context_of (frame_word rom.machine words) list frame_start) (frame_word rom.machine words) 0)
      nothing m → AllAskedMarked (frame_word rom.machine words) list frame_start m → IsMarking rom words list m
  begins nothing m none more frame =
      record {
        len = more.len ∙ ap (λ (x : Marks). length x.marked) none ∙ length-replicate (length list);
        frame = frame;
        called = λ e h. ⊎_elim (λ old. absurd
            (unmarked (length list) h.0 (subst (λ (x : Marks). slice_get x.marked h.0 ≡ Some true) none old)))
            (λ new. inl (asked_as e h new)) (more.others h.0 h.1);
        closed = λ e h. ⊎_elim (λ old. absurd
            (unmarked (length list) h.0 (subst (λ (x : Marks). slice_get x.marked h.0 ≡ Some true) none old)))
            (λ new. ⊎_elim (λ w. inl (h.0, w, h.2)) (λ l. inr (spared m e new.0 (same_at list h.0 new.0 e new.1 h.2) l)) new.4)
            (more.others h.0 h.1);
      }
    where
      asked_as : (e : Entry) (h : IsMarked list m e)
          (new : (f : Entry) × (slice_get list h.0 ≡ Some f) × (entry_at list f.addr f.key ≡ Some f)
          × Asks (frame_context rom.machine list) (frame_word rom.machine words) 0 f.addr f.key
          × (Contains m.waiting h.0 ⊎ (slice_get leaves f.addr ≡ Some true)))
          → Asks (frame_context rom.machine list) (frame_word rom.machine words) 0 e.addr e.key
      asked_as e h new =
          let same : new.0 ≡ e =
          same_at list h.0 new.0 e new.1 h.2 in
          subst (λ (x : Entry). Asks (frame_context rom.machine list) (frame_word rom.machine words) 0 x.addr x.key) same new.3

  -- past the items of the shape of a marked entry that waited
  module _ (m less new : Marks) (marking : IsMarking rom words list m) (position : ℕ) (takes : Takes position m less) (e : Entry)
      (stands : slice_get list position ≡ Some e)
      (more : MarksMore list leaves (Asks (context_of (rom_word rom) list (shape_start e)) (rom_word rom) e.addr) less new)
      (asked : AllAskedMarked (rom_word rom) list (shape_start e) new) where
    kept : (q : ℕ) → slice_get m.marked q ≡ Some true → slice_get new.marked q ≡ Some true
    kept q h = more.kept q (subst (λ (x : List Bool). slice_get x q ≡ Some true) (sym takes.marked) h)

    before : (q : ℕ) → slice_get less.marked q ≡ Some true → slice_get m.marked q ≡ Some true
    before q h = subst (λ (x : List Bool). slice_get x q ≡ Some true) takes.marked h

    waited : IsMarked list m e
    waited = (position, takes.is_marked, stands)

    still : (f : Entry) → Waits list m f → Waits list new f ⊎ AllAskedMarked (rom_word rom) list (shape_start f) new
    still f w =
        ⊎_elim
        (λ c. inl (w.0, more.waits w.0 c, w.2))
        (λ c. let at : w.0 ≡ position = only w.0 c in let same : e ≡ f =
        same_at list position e f stands (subst (λ (x : ℕ). slice_get list x ≡ Some f) at w.2) in
        inr (subst (λ (x : Entry). AllAskedMarked (rom_word rom) list (shape_start x) new) same asked))
        (Contains-append_cases less.waiting (position ∷ []) w.0 (subst (λ (x : List ℕ). Contains x w.0) takes.waiting w.1))
      where
        only : (q : ℕ) → Contains (position ∷ []) q → q ≡ position
        only q h = grind (arith)

    asked_as : (q : ℕ) (f : Entry) → slice_get list q ≡ Some f → (g : Entry) × (slice_get list q ≡ Some g)
        × (entry_at list g.addr g.key ≡ Some g) × Asks (shape_context rom.machine list e) (rom_word rom) e.addr g.addr g.key
        × (Contains new.waiting q ⊎ (slice_get leaves g.addr ≡ Some true))
        → Asks (shape_context rom.machine list e) (rom_word rom) e.addr f.addr f.key
    asked_as q f h g =
        subst (λ (x : Entry). Asks (shape_context rom.machine list e) (rom_word rom) e.addr x.addr x.key) (same_at list q g.0 f g.1 h) g.3

    pub goes_on : IsMarking rom words list new
    goes_on =
        record {
          len = more.len ∙ ap (λ (x : List Bool). length x) takes.marked ∙ marking.len;
          frame = all_on list m new kept (frame_word rom.machine words) frame_start marking.frame;
          called = λ f h. ⊎_elim (λ old. called_on list m new kept rom words f (marking.called f (h.0, before h.0 old, h.2)))
              (λ a. inr (e, marked_on list m new kept e waited, asked_as h.0 f h.2 a)) (more.others h.0 h.1);
          closed = λ f h. ⊎_elim
              (λ old. ⊎_elim (λ w. still f w) (λ a. inr (all_on list m new kept (rom_word rom) (shape_start f) a))
              (marking.closed f (h.0, before h.0 old, h.2)))
              (λ a. ⊎_elim (λ w. inl (h.0, w, h.2)) (λ l. inr (spared new f a.0 (same_at list h.0 a.0 f a.1 h.2) l)) a.4)
              (more.others h.0 h.1);
        }
