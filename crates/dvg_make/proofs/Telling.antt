-- What is told where the making stops.
use Rattle.dvg_make.proofs.Common.{◌≡◌, ℕ, zero, suc, ◌+◌, ◌<◌, ◌≤◌, List, [], ◌∷◌, ◌++◌, length, slice_get, Some, None, sym, ap, ◌∙◌, subst, arith, inl, inr, length-append, Contains, Rom, entry_at, Entry, Key, MOST_ENTRIES, Known, PartialEntry, Obstacle, ShapeAt, EntryCause, Reaches, start, shape_of, IsWaiting, IsStopped, shapes, IsMaking, Apart, InProgress, NotBegun, Cursor, AreUnmade, CauseAt, Tells, asked_shape, AreLinked, TellsObstacle, IsNoRoot, IsUnique, common_steps}
use Rattle.dvg_make.specs.declared.account.EntryCause.TheVariants as cause
pub use Rattle.dvg_make.proofs.Turns.{calls_it, apart_moved, reached, links_push, last_push, are_moved, begun_ok, begun_present, called_moved, refused, as_bar, not_err, if_err_same, walks_last, none_here, finished_new, making_finished, present_finished, first_fault, first_ok, first_present, called_none}

slice_links : (stack : List PartialEntry) (i : ℕ) (w : PartialEntry) → slice_get stack i ≡ Some w
    → slice_get (shapes stack) i ≡ Some (shape_of w)
slice_links [] i w e = absurd cc
slice_links (v ∷ stack) zero w e = let same : v ≡ w = cc e in ap (λ (x : PartialEntry). Some (shape_of x)) same
slice_links (v ∷ stack) (suc i) w e = slice_links stack i w e

-- a shape of the chain is in the making
contained : (stack : List PartialEntry) (w : PartialEntry) → Contains (shapes stack) (shape_of w) → IsMaking stack w.addr w.key
contained [] w c = absurd (omega (arith, c.1))
contained (v ∷ stack) w (zero, lt, is) = inl (ap (λ (x : ShapeAt). x.addr) is, ap (λ (x : ShapeAt). x.key) is)
contained (v ∷ stack) w (suc k, lt, is) = inr (contained stack w (k, omega (arith, lt), is))

are_unmade : (list : List Entry) (stack : List PartialEntry) → Apart list stack → AreUnmade list (shapes stack)
are_unmade list [] a = tt
are_unmade list (w ∷ stack) a = (a.0, λ c. a.1 (contained stack w c), are_unmade list stack a.2)

tells_last : (rom : Rom) (list : List Entry) (root : ℕ × Key) (stack : List PartialEntry) (w : PartialEntry)
    → AreLinked rom list root (stack ++ w ∷ []) → (at : ℕ) (before : Known) (why : EntryCause) → Reaches rom list (shape_of w) at before
    → CauseAt rom list (shapes (stack ++ w ∷ [])) at before why → Tells rom list (asked_shape root) (shapes (stack ++ w ∷ [])) at before why
tells_last rom list root [] w h at before why r says = (h.0, tt, r, says)
tells_last rom list root (v ∷ stack) w h at before why r says = grind (arith, shape_of, links_push, last_push, shapes)

module _ (rom : Rom) (from : List Entry) (root : ℕ × Key) (done : List Entry) (stack : List PartialEntry) (partial : PartialEntry)
    (h : InProgress rom from root done (stack ++ partial ∷ [])) where
  -- there is room for it
  pub has_room : length done < MOST_ENTRIES
  has_room = let long : length (stack ++ partial ∷ []) ≡ length stack + 1 =
      length-append stack (partial ∷ []) in omega (arith, long, h.room)

  -- an item stops it
  pub tells_stopped : (obstacle : Obstacle) → IsStopped rom done partial obstacle
      → TellsObstacle rom done root (stack ++ partial ∷ []) obstacle
  tells_stopped obstacle s = grind (arith, tells_last, slice_get, shapes, has_room)

  -- its entry is not added
  pub tells_memory : (obstacle : Obstacle) → obstacle ≡ record { cursor = partial.cursor; cause = cause.Memory }
      → (r : Reaches rom done (shape_of partial) partial.cursor.at partial.cursor.known)
      → TellsObstacle rom done root (stack ++ partial ∷ []) obstacle
  tells_memory obstacle e r = grind (arith, tells_last)

  -- and for the shape at another item
  pub room_moved : (new : PartialEntry) (chain : List PartialEntry) → chain ≡ stack ++ new ∷ [] → length done + length chain ≤ MOST_ENTRIES
  room_moved new chain e = grind (arith, length-append)

  -- what it calls is not begun
  module _ (new : PartialEntry) (addr : ℕ) (w : IsWaiting rom done partial new addr) where
    crowded_out : NotBegun done (stack ++ new ∷ []) addr new.cursor.known.scale cause.TooManyEntries
        → CauseAt rom done (shapes (stack ++ new ∷ [])) new.cursor.at new.cursor.known cause.TooManyEntries
    crowded_out b =
        grind (
          arith,
          common_steps,
          (calls_it rom from root done stack partial h new addr w),
          (contained (stack ++ new ∷ []) (start addr new.cursor.known.scale)),
          (are_unmade done (stack ++ new ∷ []) (apart_moved rom from root done stack partial h new addr w)),
        )

    not_begun : (why : EntryCause) → NotBegun done (stack ++ new ∷ []) addr new.cursor.known.scale why
        → CauseAt rom done (shapes (stack ++ new ∷ [])) new.cursor.at new.cursor.known why
    not_begun why b = grind (arith, crowded_out, calls_it, shape_of, slice_links)

    pub tells_not_begun : (chain : List PartialEntry) → chain ≡ stack ++ new ∷ [] → (obstacle : Obstacle) (why : EntryCause)
        → obstacle ≡ record { cursor = new.cursor; cause = why } → NotBegun done chain addr new.cursor.known.scale why
        → TellsObstacle rom done root chain obstacle
    tells_not_begun chain e obstacle why s b =
        rw (e, s) (tells_last rom done root stack new
        (are_moved rom done root stack partial new (λ j. record { addr = sym w.same_addr j; key = sym w.same_key j }) h.linked)
        new.cursor.at new.cursor.known why (reached rom done new w.partial) (not_begun why (rw e at b)))

-- where nothing is begun
pub room_of_none : (done : List Entry) (chain : List PartialEntry) → chain ≡ [] → length done ≤ MOST_ENTRIES
    → length done + length chain ≤ MOST_ENTRIES
room_of_none done chain e room = let long : length chain ≡ 0 = ap (λ (l : List PartialEntry). length l) e in omega (arith, long, room)

-- ---- no root

-- what is not begun is not told to be a root outside the ROM
pub begin_no_root : (done : List Entry) (stack : List PartialEntry) (addr : ℕ) (key : Key) (cursor : Cursor) (obstacle : Obstacle)
    (why : EntryCause) → obstacle ≡ record { cursor = cursor; cause = why } → NotBegun done stack addr key why → IsNoRoot obstacle
begin_no_root done stack addr key cursor obstacle why s b q =
    subst (NotBegun done stack addr key) (sym (ap (λ (x : Obstacle). x.cause) s) ∙ q) b

-- nor is what stops at an item
pub stopped_no_root : (rom : Rom) (list : List Entry) (w : PartialEntry) (obstacle : Obstacle) → IsStopped rom list w obstacle
    → IsNoRoot obstacle
stopped_no_root rom list w obstacle s q = subst (CauseAt rom list [] obstacle.cursor.at obstacle.cursor.known) q s.cause

pub tells_first : (rom : Rom) (done : List Entry) (addr : ℕ) (key : Key) → IsUnique done → entry_at done addr key ≡ None
    → (old chain : List PartialEntry) → old ≡ [] → chain ≡ old → (obstacle : Obstacle) (why : EntryCause)
    → obstacle ≡ record { cursor = (start addr key).cursor; cause = why } → NotBegun done old addr key why
    → TellsObstacle rom done (addr, key) chain obstacle
tells_first rom done addr key unique none old chain e f obstacle why s b = grind (arith, slice_get)
