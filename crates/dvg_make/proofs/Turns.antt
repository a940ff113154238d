-- What begins, and what each turn gives.
use Rattle.dvg_make.proofs.Common.{◌≡◌, ℕ, zero, suc, Some, ◌+◌, ◌<◌, ◌≤◌, List, [], ◌∷◌, ◌++◌, length, None, refl, sym, ap, ◌∙◌, subst, arith, inl, inr, length-append, Result, false, Rom, rom_word, IsKey, entry_at, Entry, Key, ADDRESS_END, MOST_ENTRIES, MOST_WORDS, PartialEntry, start, IsPartial, IsWaiting, IsMaking, Apart, IsPresent, IsCalled, Chain, IsAim, NoAim, Bars, IsDone, NotBegun, InProgress, EntryCause, shape_of, listed_at, OnOk, IfErr, IsErrAnd, EntryFault, TooManyEntries, Memory, AllCalled, IsBegun, CallsAt, Precedes, entry_fault, slice_get, Bool, is_at, is_some, entry_of, at_holds, at_means, AllByRecursion, Extends, HasEntry, IsUnique}
use Rattle.std.specs.Set.{is_member}
use Rattle.std.specs.Cmp.{IsEquivalence}
use Rattle.std.specs.List.{IsDistinct}
use Rattle.std.proofs.lemmas.Map.Made.{length-le_from_is_member}
use Rattle.std.specs.Result.{is_err}
use Rattle.dvg_make.specs.declared.account.EntryCause.TheVariants as cause
pub use Rattle.dvg_make.proofs.Linking.{are_moved, are_pushed, links_push, last_push}
pub use Rattle.dvg_make.proofs.Onward.{reached}
use Rattle.dvg_make.proofs.Ends.{made_some}
pub use Rattle.dvg_make.proofs.Chains.{none_deep, forced_begun, apart_pop, apart_push, walks_pop, walks_push, making_append, making_left, making_last, IsNeeded, needed_grows, walks_last, none_here, finished_new, making_finished, present_finished}

-- ---- a list that has so many different entries has at least that length

-- whether two entries have the same address and key
abbrev same : Entry → Entry → Bool
same e f = is_at e.addr e.key f

same_law : IsEquivalence same
same_law = record {
  refl = λ e. at_holds e.addr e.key e refl refl;
  symm = λ e f. grind (arith, at_means, at_holds);
  congr =
      λ e f g is. grind (arith, at_means, at_holds);
}

member_is : (l : List Entry) (e : Entry) → is_member same l e ≡ is_some (entry_at l e.addr e.key)
member_is [] e = refl
member_is (x ∷ l) e = grind (arith, (member_is l e), entry_at, is_member)

none_same : (l : List Entry) (e : Entry) → entry_at l e.addr e.key ≡ None → AllByRecursion (λ f. same e f ≡ false) l
none_same [] e none = tt
none_same (x ∷ l) e none = grind (arith, entry_at, is_at, (none_same l e))

-- the entries and the shapes in the making, all as entries
abbrev whole : List Entry → List PartialEntry → List Entry
whole done [] = done
whole done (w ∷ stack) = entry_of w.addr w.key w.cursor.known w.lit ∷ whole done stack

length_whole : (done : List Entry) (stack : List PartialEntry) → length (whole done stack) ≡ length done + length stack
length_whole done [] = omega arith
length_whole done (w ∷ stack) = let e = length_whole done stack in omega (arith, e)

present : (done : List Entry) (stack : List PartialEntry) (addr : ℕ) (key : Key) (f : Entry)
    → entry_at (whole done stack) addr key ≡ Some f → IsPresent done stack addr key
present done [] addr key f e = inl (f, e)
present done (w ∷ stack) addr key f e = grind (arith, is_at, at_means, entry_at, (present done stack addr key f))

distinct : (done : List Entry) (stack : List PartialEntry) → IsUnique done → Apart done stack → IsDistinct same (whole done stack)
unfolding IsDistinct
distinct [] [] unique apart = tt
distinct (e ∷ done) [] unique apart = (none_same done e unique.0, distinct done [] unique.1 tt)
distinct done (w ∷ stack) unique apart = (
  none_same (whole done stack) (entry_of w.addr w.key w.cursor.known w.lit) (grind (arith, (present done stack w.addr w.key))),
  distinct done stack unique apart.2,
)

making_found : (made : List Entry) (most n : ℕ) (stack : List PartialEntry) (addr : ℕ) (key : Key) → Chain made most stack n
    → IsMaking stack addr key → HasEntry made addr key
making_found made most n [] addr key h m = absurd m
making_found made most n (v ∷ stack) addr key h m = grind (arith, (making_found made h.0.words n stack addr key h.3))

crowded : (done made : List Entry) (most n : ℕ) (stack : List PartialEntry) → IsUnique done → Apart done stack → Extends done made
    → Chain made most stack n → length done + length stack ≤ length made
crowded done made most n stack unique apart ext chain =
    let few = length-le_from_is_member same_law (whole done stack) made (distinct done stack unique apart)
    (λ e m. grind (
      arith,
      member_is,
      is_some,
      (present done stack e.addr e.key),
      ext,
      (making_found made most n stack e.addr e.key chain),
    )) in
    omega (arith, few, length_whole done stack)

-- ---- what begins, and what each turn gives

making_slice : (stack : List PartialEntry) (i : ℕ) (w : PartialEntry) (addr : ℕ) (key : Key) → slice_get stack i ≡ Some w → w.addr ≡ addr
    → w.key ≡ key → IsMaking stack addr key
making_slice [] i w addr key e a k = cc e
making_slice (v ∷ stack) zero w addr key e a k =
    let same : v ≡ w = cc e in inl (ap (λ (x : PartialEntry). x.addr) same ∙ a, ap (λ (x : PartialEntry). x.key) same ∙ k)
making_slice (v ∷ stack) (suc i) w addr key e a k = inr (making_slice stack i w addr key e a k)

pub start_walk : (rom : Rom) (done : List Entry) (addr : ℕ) (key : Key) → addr < ADDRESS_END → IsKey key
    → IsPartial rom done (start addr key)
start_walk rom done addr key lt is = grind (arith)

first_chain : (rom : Rom) (from made : List Entry) (root : ℕ × Key) → IsAim rom from root made
    → Chain made (MOST_WORDS + 1) (start root.0 root.1 ∷ []) 0
first_chain rom from made root m =
    let is = m.all m.has.0 (listed_at made root.0 root.1 m.has.0 m.has.1).listed in
    let some = made_some rom made m.has.0 is.made in
    (m.has.0, m.has.1, omega (arith, is.words), omega (arith, some))

pub first_begun : (rom : Rom) (done : List Entry) (addr : ℕ) (key : Key) → IsDone rom done → addr < ADDRESS_END → IsKey key
    → entry_at done addr key ≡ None → length done < MOST_ENTRIES → InProgress rom done (addr, key) done (start addr key ∷ [])
first_begun rom done addr key h near is none few =
    record {
      is_done = h;
      extends = λ a k e q. q;
      partials = (start_walk rom done addr key near is, tt);
      apart = (none, λ m. m, tt);
      linked = (refl, tt);
      needed = λ a k p. grind (arith);
      room = omega (arith, few);
      forced = λ made m. (m.extends, first_chain rom done made (addr, key) m);
    }

module _ (rom : Rom) (from : List Entry) (root : ℕ × Key) (done : List Entry) (stack : List PartialEntry) (partial : PartialEntry)
    (h : InProgress rom from root done (stack ++ partial ∷ [])) (new : PartialEntry) (addr : ℕ)
    (w : IsWaiting rom done partial new addr) where
  abbrev at_key : Key
  at_key = new.cursor.known.scale

  pub present_begun : (a : ℕ) (k : Key) → IsPresent done (stack ++ partial ∷ []) a k
      → IsPresent done ((stack ++ new ∷ []) ++ start addr at_key ∷ []) a k
  present_begun a k h2 = grind (arith, making_left, start, making_last, making_append)

  was_begun : (a : ℕ) (k : Key) → IsMaking (stack ++ new ∷ []) a k → IsMaking (stack ++ partial ∷ []) a k
  was_begun a k m = grind (arith, making_left, making_last, making_append)

  -- what it calls is not begun
  present_moved : (a : ℕ) (k : Key) → IsPresent done (stack ++ partial ∷ []) a k → IsPresent done (stack ++ new ∷ []) a k
  present_moved a k h2 = grind (arith, making_left, making_last, making_append)

  pub called_moved : (chain : List PartialEntry) → chain ≡ stack ++ new ∷ [] → AllCalled rom from root done chain
  called_moved chain e =
      subst (AllCalled rom from root done) (sym e)
      (λ a k p. needed_grows rom from root done done (stack ++ partial ∷ []) (stack ++ new ∷ []) (λ y z e q. q) present_moved a k
      (h.needed a k (grind (arith, was_begun))))

  called_begun : IsCalled rom done ((stack ++ new ∷ []) ++ start addr at_key ∷ []) addr at_key
  called_begun =
      grind (
        arith,
        (reached rom done new w.partial),
        (making_left (stack ++ new ∷ []) (start addr at_key ∷ []) new.addr new.key (making_last stack new new.addr new.key refl refl)),
        (start addr at_key),
        (making_last stack new new.addr new.key refl refl),
        (rom_word rom),
      )

  needed_begun : (a : ℕ) (k : Key) → IsPresent done ((stack ++ new ∷ []) ++ start addr at_key ∷ []) a k
      → IsNeeded rom from root done ((stack ++ new ∷ []) ++ start addr at_key ∷ []) a k
  needed_begun a k p =
      grind (
        arith,
        was_begun,
        start,
        called_begun,
        making_append,
        (needed_grows rom from root done done (stack ++ partial ∷ []) ((stack ++ new ∷ []) ++ start addr at_key ∷ []) (λ y z e q. q)
            present_begun a k),
      )

  -- the item at which it waits
  pub calls_it : CallsAt rom new.cursor.at new.cursor.known (shape_of (start addr at_key))
  calls_it = record { item = w.item; at_is = w.at; stands = w.stands; target_is = w.target_is; key_is = refl }

  pub apart_moved : Apart done (stack ++ new ∷ [])
  apart_moved = grind (arith, apart_pop, entry_at, apart_push)

  pub making_begun : (IsMaking (stack ++ new ∷ []) addr at_key → ⊥) → length done + length (stack ++ new ∷ []) < MOST_ENTRIES
      → InProgress rom from root done ((stack ++ new ∷ []) ++ start addr at_key ∷ [])
  making_begun other few =
      let long : length ((stack ++ new ∷ []) ++ start addr at_key ∷ []) ≡ length (stack ++ new ∷ []) + 1 =
      length-append (stack ++ new ∷ []) (start addr at_key ∷ []) in
      let precedes : Precedes rom done (shape_of new) (shape_of (start addr at_key)) =
      record { at = new.cursor.at; before = new.cursor.known; reaches = reached rom done new w.partial; calls = calls_it } in
      record {
        is_done = h.is_done;
        extends = h.extends;
        partials = walks_push rom done (stack ++ new ∷ []) (start addr at_key)
            (walks_push rom done stack new (walks_pop rom done stack (partial ∷ []) h.partials) w.partial)
            (start_walk rom done addr at_key w.near w.scale);
        apart = apart_push done (stack ++ new ∷ []) (start addr at_key) apart_moved w.none other;
        linked = are_pushed rom done root stack new (start addr at_key) precedes
            (are_moved rom done root stack partial new (λ j. record { addr = sym w.same_addr j; key = sym w.same_key j }) h.linked);
        needed = needed_begun;
        room = omega (arith, long, few);
        forced = forced_begun rom from root done stack partial h new addr w;
      }

  -- a 4097th entry
  none_large : MOST_ENTRIES ≤ length done + length (stack ++ new ∷ []) → (IsMaking (stack ++ new ∷ []) addr at_key → ⊥)
      → (made : List Entry) → IsAim rom from root made → MOST_ENTRIES < length made
  none_large le other made m =
      let f = forced_begun rom from root done stack partial h new addr w made m in
      let full = crowded done made (MOST_WORDS + 1) 0 ((stack ++ new ∷ []) ++ start addr at_key ∷ []) h.is_done.unique
      (apart_push done (stack ++ new ∷ []) (start addr at_key) apart_moved w.none other) f.0 f.1 in
      let long : length ((stack ++ new ∷ []) ++ start addr at_key ∷ []) ≡ length (stack ++ new ∷ []) + 1 =
      length-append (stack ++ new ∷ []) (start addr at_key ∷ []) in
      omega (arith, le, full, long)

  pub refuses : (at : ℕ) (why : EntryCause) → NotBegun done (stack ++ new ∷ []) addr at_key why → Bars rom from root (entry_fault at why)
  refuses at (cause.Ring index) b =
      none_deep rom from root done stack partial h new addr w (making_slice (stack ++ new ∷ []) index b.0 addr at_key b.1 b.2 b.3)
  refuses at cause.TooManyEntries b = none_large b.0 b.1
  refuses at cause.Memory b = tt
  refuses at why b = absurd b

-- nothing is begun
pub called_none : (rom : Rom) (from : List Entry) (root : ℕ × Key) (chain : List PartialEntry) → chain ≡ []
    → AllCalled rom from root from chain
called_none rom from root chain e = grind (arith)

pub as_bar : (rom : Rom) (from : List Entry) (root : ℕ × Key) (f : EntryFault) → NoAim rom from root → Bars rom from root f
as_bar rom from root TooManyEntries n = λ made m. absurd (n made m)
as_bar rom from root Memory n = tt
as_bar rom from root f n = n

module _ (rom : Rom) (from : List Entry) (root : ℕ × Key) (done : List Entry) (stack : List PartialEntry) (partial : PartialEntry)
    (h : InProgress rom from root done (stack ++ partial ∷ [])) (new : PartialEntry) (addr : ℕ) (w : IsWaiting rom done partial new addr)
    (pushed : List PartialEntry) (e : pushed ≡ stack ++ new ∷ []) where
  pub begun_ok : (begun : List PartialEntry) → IsBegun done pushed begun addr new.cursor.known.scale → InProgress rom from root done begun
  begun_ok begun b = let x = rw e at b in rw x.stack (making_begun rom from root done stack partial h new addr w x.other x.few)

  pub begun_present : (begun : List PartialEntry) → IsBegun done pushed begun addr new.cursor.known.scale → (a : ℕ) (k : Key)
      → IsPresent done (stack ++ partial ∷ []) a k → IsPresent done begun a k
  begun_present begun b a k p =
      subst (λ s. IsPresent done s a k) (sym (b.stack ∙ ap (λ (s : List PartialEntry). s ++ start addr new.cursor.known.scale ∷ []) e))
      (present_begun rom from root done stack partial h new addr w a k p)

  pub refused : (at : ℕ) (why : EntryCause) → NotBegun done pushed addr new.cursor.known.scale why → Bars rom from root (entry_fault at why)
  refused at why b =
      refuses rom from root done stack partial h new addr w at why (subst (λ s. NotBegun done s addr new.cursor.known.scale why) e b)

pub first_ok : (rom : Rom) (done : List Entry) (addr : ℕ) (key : Key) → IsDone rom done → addr < ADDRESS_END → IsKey key
    → entry_at done addr key ≡ None → (old begun : List PartialEntry) → old ≡ [] → IsBegun done old begun addr key
    → InProgress rom done (addr, key) done begun
first_ok rom done addr key h near is none old begun e b =
    let x = rw e at b in rw x.stack (first_begun rom done addr key h near is none (omega (arith, x.few)))

pub on_ok : {T E : Type 0} (r : Result T E) (P : Type 0) → P → OnOk r P
on_ok r P h = grind (arith)

pub not_err : {T E : Type 0} (r : Result T E) (P : Type 0) → is_err r ≡ false → OnOk r P → P
not_err r P f h = grind (arith)

pub if_err_same : {T E : Type 0} (r : Result T E) (x : E) (P : E → Type 0) → IsErrAnd r (λ e. e ≡ x) → P x → IfErr r P
if_err_same r x P h p = grind (arith)

pub first_fault : (rom : Rom) (done : List Entry) (addr : ℕ) (key : Key) → IsDone rom done → entry_at done addr key ≡ None
    → (old : List PartialEntry) → old ≡ [] → (at : ℕ) (why : EntryCause) → NotBegun done old addr key why
    → Bars rom done (addr, key) (entry_fault at why)
first_fault rom done addr key h none old e at why b =
    let large : MOST_ENTRIES ≤ length done → (made : List Entry) → IsAim rom done (addr, key) made → MOST_ENTRIES < length made =
    λ le made m. let full =
    crowded done made (MOST_WORDS + 1) 0 (start addr key ∷ []) h.unique (none, λ x. x, tt) m.extends
    (first_chain rom done made (addr, key) m) in omega (arith, full, le) in
    grind (arith, slice_get, large)

pub first_present : (done : List Entry) (addr : ℕ) (key : Key) (old begun : List PartialEntry) → old ≡ []
    → IsBegun done old begun addr key → IsPresent done begun addr key
first_present done addr key old begun e b =
    subst (λ s. IsPresent done s addr key) (sym (b.stack ∙ ap (λ (s : List PartialEntry). s ++ start addr key ∷ []) e))
    (inr (inl (refl, refl)))
