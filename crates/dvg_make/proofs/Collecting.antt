-- Root after root, and frame after frame.
use Rattle.dvg_make.proofs.Common.{Machine, ◌≡◌, ℕ, zero, suc, ◌+◌, ◌<◌, ◌≤◌, List, [], ◌∷◌, ◌++◌, length, Option, Some, None, refl, sym, subst, arith, ◌⊎◌, inl, inr, ⊎_elim, Contains, slice_get, Bool, false, Rom, IsKey, Entry, Key, MOST_ENTRIES, listed_at, HasEntry, AllMade, IsAskedFor, EntryFault, TooManyEntries, Memory, FramesRefuse, Extends, IsAim, NoAim, InProgress, Bars, obstacle_fault, Collected, HasCalls, IsFramed, BarsHere, AllFramed, PartialEntry, Obstacle, shapes, IsMaking, IsCalled, IsToldOf, TellsHere, keyed_context, start, FrameCall, known_before, rules, Contains-append_left, Contains-append_right, Contains-append_cases, Contains-get_or, take, drop, get_or, common_steps, take-suc, take-append-drop, IsTrue, ◌↔◌, InRom, HasAsked, make_fault_of, Refuses, BarsList, NoFramesMade, HasAll, IsBlocked, IsRefused, BarsCalls, NoneHasCalls, BlocksHere, Blocked, asked_shape, IsToldFrom, KeyedCall, IsGivenHere, RootOutside, IsNamedBy, IsNeededBy, EntryCause, UnlessMemory}
use Rattle.std.proofs.lemmas.Option.{slice_get-get_or, slice_get_read}
use Rattle.dvg_make.proofs.Onward.{listed_entry}
use Rattle.dvg_make.proofs.Framing.{done_made, collected_more, call_grows, keyed_call, called_told, calls_grow, has_calls_grow}
use Rattle.dvg_make.proofs.Merging.{only_listed}
pub use Rattle.dvg_make.proofs.OneFrame.{made_all}
use Rattle.dvg_make.proofs.Finishing.{roots_made}
use Rattle.dvg_make.proofs.Telling.{room_of_none, called_none}

-- ---- what is taken

in_taken : {A : Type 0} (xs : List A) (n : ℕ) (x : A) → Contains (take n xs) x → Contains xs x
in_taken xs n x c = subst (λ l. Contains l x) (take-append-drop n xs) (Contains-append_left (take n xs) (drop n xs) x c)

-- an element of what is taken stands at the same place in the whole, and those before it are taken, too
stands_taken : {A : Type 0} (xs : List A) (n : ℕ) (x : A) → Contains (take n xs) x → (i : ℕ) × (slice_get xs i ≡ Some x)
    × ((z : A) → Contains (take i xs) z → Contains (take n xs) z)
stands_taken xs n x (i, lt, is) = (
  i,
  slice_get_read xs (length xs) i x refl (grind (arith, common_steps)) (grind (arith, common_steps)),
  λ z c. grind (arith, common_steps),
)

-- ---- roots

pub root_collected : (rom : Rom) (roots : List (ℕ × Key)) (i j : ℕ) (d : ℕ × Key) (old new : List Entry) → j ≡ suc i → i < length roots
    → Collected rom (take i roots) old → InProgress rom old ((get_or roots i d).0, (get_or roots i d).1) new []
    → HasEntry new (get_or roots i d).0 (get_or roots i d).1 → Collected rom (take j roots) new
root_collected rom roots i j d old new next lt h m has =
    grind (arith, (take-suc roots i d lt), (collected_more rom (take i roots) old new (get_or roots i d).0 (get_or roots i d).1 h m has))

module _ (rom : Rom) (roots : List (ℕ × Key)) (i : ℕ) (d : ℕ × Key) (done : List Entry) (lt : i < length roots)
    (h : Collected rom (take i roots) done) where
  -- a certificate that has all roots has what is made so far, and this root
  aims : (list : List Entry) → AllMade rom list → HasAll roots list → IsAim rom done ((get_or roots i d).0, (get_or roots i d).1) list
  aims list all has =
      search (
        all,
        h.forced list all (λ a k c. has a k (in_taken roots i (a, k) c)),
        has (get_or roots i d).0 (get_or roots i d).1 (Contains-get_or roots i d lt),
      )

  none_made : (frames : List (List ℕ)) → NoAim rom done ((get_or roots i d).0, (get_or roots i d).1) → NoFramesMade rom roots frames
  none_made frames b list m =
      b list (aims list (made_all rom (IsAskedFor rom.machine roots frames list) list m) (λ a k r. m.rooted a k (inl r)))

  -- so what a refusal says of such lists, it says of those that have all that frames call, too
  pub root_barred : (frames : List (List ℕ)) (why : EntryFault) → Bars rom done ((get_or roots i d).0, (get_or roots i d).1) why
      → BarsList rom roots frames why
  root_barred frames TooManyEntries b = λ list all has. b list (aims list all (λ a k r. has a k (inl r)))
  root_barred frames Memory b = tt
  root_barred frames why b = none_made frames b

  outside : (InRom rom.map (get_or roots i d).0 × IsKey (get_or roots i d).1 → ⊥) → (frames : List (List ℕ)) → NoFramesMade rom roots frames
  outside not frames list m =
      let r = m.rooted (get_or roots i d).0 (get_or roots i d).1 (inl (Contains-get_or roots i d lt)) in
      let l = listed_at list (get_or roots i d).0 (get_or roots i d).1 r.0 r.1 in
      let e = listed_entry rom.map.rom_first rom.map.rom_last list r.0 m.certificate.each l.listed in
      not (
        (subst (λ a. rom.map.rom_first ≤ a) l.addr_is e.addr_low, subst (λ a. a ≤ rom.map.rom_last) l.addr_is e.addr_high),
        subst IsKey l.key_is e.key,
      )

-- ---- what is needed

in_links : (chain : List PartialEntry) (addr : ℕ) (key : Key) → IsMaking chain addr key → Contains (shapes chain) (asked_shape (addr, key))
in_links [] addr key m = absurd m
in_links (w ∷ chain) addr key (inl s) = (zero, omega arith, (λ j. record { addr = s.0 j; key = s.1 j }))
in_links (w ∷ chain) addr key (inr m) = let c = in_links chain addr key m in (suc c.0, omega (arith, c.1), c.2)

-- what an entry or a shape in the making calls
needed_by : (rom : Rom) (list : List Entry) (chain : List PartialEntry) (addr : ℕ) (key : Key) → IsCalled rom list chain addr key
    → IsNeededBy rom list (shapes chain) (asked_shape (addr, key))
needed_by rom list chain addr key c =
    record {
      from = asked_shape (c.from, c.from_key);
      there = ⊎_elim (λ has. inl has) (λ m. inr (in_links chain c.from c.from_key m)) c.present;
      precedes = search (rules, known_before (keyed_context rom.machine list c.from_key) c.earlier);
    }

room_of_links : (list : List Entry) (chain : List PartialEntry) → length list + length chain ≤ MOST_ENTRIES
    → length list + length (shapes chain) ≤ MOST_ENTRIES
room_of_links list chain room = grind (arith, common_steps)

module _ (machine : Machine) (roots : List (ℕ × Key)) (frames : List (List ℕ)) (list : List Entry) where
  abbrev IsNamed : ℕ → Key → Type 0
  IsNamed addr key = (call : Option FrameCall) × IsNamedBy machine roots frames list call (asked_shape (addr, key))

  named_at : (root : ℕ) (addr : ℕ) (key : Key) → slice_get roots root ≡ Some (addr, key) → HasAll (take root roots) list → IsNamed addr key
  named_at root addr key is has = (None, (root, is, λ a k. ⊎_elim (λ r. has a k r) (λ b. absurd (omega (arith, b.1.1)))))

  -- one of so many roots
  named_taken : (n : ℕ) → HasAll (take n roots) list → (addr : ℕ) (key : Key) → Contains (take n roots) (addr, key) → IsNamed addr key
  named_taken n has addr key c = let g = stands_taken roots n (addr, key) c in named_at g.0 addr key g.1 (λ a k b. has a k (g.2 (a, k) b))

  named_root : HasAll roots list → (addr : ℕ) (key : Key) → Contains roots (addr, key) → IsNamed addr key
  named_root has addr key c =
      named_at c.0 addr key (slice_get_read roots (length roots) c.0 (addr, key) refl c.1 (sym c.2))
      (λ a k b. has a k (in_taken roots c.0 (a, k) b))

  -- a call of a frame
  named_call : (frame : ℕ) (words : List ℕ) → slice_get frames frame ≡ Some words → HasAsked machine roots (take frame frames) list
      → (addr : ℕ) (key : Key) → KeyedCall machine words list addr key → IsNamed addr key
  named_call frame words is has addr key k =
      (Some (record { frame = frame; at = k.calls.item.at }), (words, is, record { calls = k.calls; at_is = refl; before = k.keyed }, has))

  -- of one of so many
  named_before : (n : ℕ) (words : List ℕ) → Contains (take n frames) words → HasAsked machine roots (take n frames) list
      → (addr : ℕ) (key : Key) → KeyedCall machine words list addr key → IsNamed addr key
  named_before n words c has addr key k =
      let g = stands_taken frames n words c in
      named_call g.0 words g.1 (λ a k. ⊎_elim (λ r. has a k (inl r)) (λ b. has a k (inr (b.0, g.2 b.0 b.1, b.2)))) addr key k

-- what is told of a root, whatever the frames are
root_told : (rom : Rom) (roots : List (ℕ × Key)) (i : ℕ) (d : ℕ × Key) (done : List Entry) → i < length roots
    → Collected rom (take i roots) done → (chain : List PartialEntry) (obstacle : Obstacle)
    → IsToldFrom rom done ((get_or roots i d).0, (get_or roots i d).1) chain obstacle → (frames : List (List ℕ))
    → IsToldOf rom roots frames None chain obstacle
root_told rom roots i d done lt h chain obstacle b frames =
    let before : HasAll (take i roots) b.list = λ a k c. let f = h.rooted a k c in (f.0, b.extends a k f.0 f.1) in
    let here : IsNamedBy rom.machine roots frames b.list None (asked_shape (get_or roots i d)) =
    (i, slice_get-get_or roots i d lt, λ a k. ⊎_elim (λ r. before a k r) (λ x. absurd (omega (arith, x.1.1)))) in
    let was : (a : ℕ) (k : Key) → HasEntry done a k → IsNamed rom.machine roots frames b.list a k ⊎ IsCalled rom done [] a k =
    λ a k has. ⊎_elim (λ c. inl (named_taken rom.machine roots frames b.list i before a k c)) (λ c. inr c) (h.needed a k has) in
    record {
      list = b.list;
      within = b.is_done.entries;
      needed = λ shape has. ⊎_elim (λ r. inl r) (λ c. inr (needed_by rom b.list chain shape.addr shape.key c))
          (called_told rom done b.list (get_or roots i d) chain (IsNamed rom.machine roots frames b.list) b.extends b.needed was
          (None, here) shape.addr shape.key has);
      made = done_made rom b.list b.is_done;
      asked = asked_shape (get_or roots i d);
      named = here;
      room = room_of_links b.list chain b.room;
      tells = b.tells;
      outside = λ q. refl;
    }

unless : (c : EntryCause) (T : Type 0) → T → UnlessMemory c T
unless c T t = grind (arith)

module _ (rom : Rom) (roots : List (ℕ × Key)) (i : ℕ) (d : ℕ × Key) (done : List Entry) (lt : i < length roots)
    (h : Collected rom (take i roots) done) where
  outside_at : (r : Bool) → r ≡ false → (IsTrue r ↔ (InRom rom.map (get_or roots i d).0 × IsKey (get_or roots i d).1))
      → InRom rom.map (get_or roots i d).0 × IsKey (get_or roots i d).1 → ⊥
  outside_at r failed is inside = let t : IsTrue false = subst IsTrue failed (is.1 inside) in cc t

  -- a root whose entry can't be made
  pub root_refused : (blocked : Blocked) → IsBlocked rom done ((get_or roots i d).0, (get_or roots i d).1) blocked
      → (frames : List (List ℕ)) → IsRefused rom roots frames blocked
  root_refused blocked b frames =
      grind (
        arith,
        (obstacle_fault blocked.obstacle),
        root_barred,
        (unless blocked.obstacle.cause (IsToldOf rom roots frames None blocked.chain blocked.obstacle)
            (root_told rom roots i d done lt h blocked.chain blocked.obstacle b.told frames)),
        (root_told rom roots i d done lt h blocked.chain blocked.obstacle b.told frames),
      )

  -- a root outside the ROM, or with a key over 15
  pub outside_refused : (r : Bool) → r ≡ false → (IsTrue r ↔ (InRom rom.map (get_or roots i d).0 × IsKey (get_or roots i d).1))
      → (chain : List PartialEntry) → chain ≡ [] → (obstacle : Obstacle)
      → obstacle ≡ record { cursor = (start (get_or roots i d).0 (get_or roots i d).1).cursor; cause = RootOutside }
      → (frames : List (List ℕ))
      → IsRefused rom roots frames (record { call = None; chain = chain; obstacle = obstacle })
  outside_refused r failed is chain none obstacle e frames =
      let not = outside rom roots i d done lt h (outside_at r failed is) in
      record {
        refuse = subst (λ o. FramesRefuse rom roots frames (record { call = None; why = obstacle_fault o })) (sym e)
            (record { list = not frames; root = not []; frame = tt });
        told = unless obstacle.cause (IsToldOf rom roots frames None chain obstacle)
            (root_told rom roots i d done lt h chain obstacle (grind (arith, called_none, room_of_none, outside_at)) frames);
      }

-- ---- frames

-- what is told of a frame's call
call_told : (rom : Rom) (roots : List (ℕ × Key)) (frames : List (List ℕ)) (i : ℕ) (d : List ℕ) (old : List Entry) → i < length frames
    → AllFramed rom roots (take i frames) old → (at : ℕ) (chain : List PartialEntry) (obstacle : Obstacle)
    → TellsHere rom (get_or frames i d) old at chain obstacle
    → IsToldOf rom roots frames (Some (record { frame = i; at = at })) chain obstacle
call_told rom roots frames i d old lt h at chain obstacle t =
    let rooted : HasAll roots t.list = λ a k r. let f = h.rooted a k r in (f.0, t.extends a k f.0 f.1) in
    let before : HasAsked rom.machine roots (take i frames) t.list =
    λ a k. ⊎_elim (λ r. rooted a k r) (λ c. has_calls_grow rom.machine c.0 old t.list t.extends (h.has_calls c.0 c.1) a k c.2) in
    let asked_before : (a : ℕ) (k : Key) → IsAskedFor rom.machine roots (take i frames) old a k
    → IsNamed rom.machine roots frames t.list a k =
    λ a k.
    ⊎_elim (λ r. named_root rom.machine roots frames t.list rooted a k r)
    (λ c. named_before rom.machine roots frames t.list i c.0 c.1 before a k
    (call_grows rom.machine c.0 old t.list t.extends a k (keyed_call rom.machine c.0 old (h.has_calls c.0 c.1) a k c.2))) in
    let asked_here : (a : ℕ) (k : Key) → IsGivenHere rom.machine (get_or frames i d) h.asked t.list a k
    → IsNamed rom.machine roots frames t.list a k =
    λ a k. ⊎_elim (λ c. asked_before a k (h.asked_for a k c))
    (λ c. named_call rom.machine roots frames t.list i (get_or frames i d) (slice_get-get_or frames i d lt) before a k c) in
    record {
      list = t.list;
      within = t.within;
      made = t.made;
      asked = asked_shape (t.to, t.scale);
      named = (get_or frames i d, slice_get-get_or frames i d lt, t.call, before);
      needed = λ shape has. ⊎_elim (λ g. inl (asked_here shape.addr shape.key g))
          (λ c. inr (needed_by rom t.list chain shape.addr shape.key c)) (t.needed h.asked h.collected shape.addr shape.key has);
      room = room_of_links t.list chain t.room;
      tells = t.tells;
      outside = λ q. absurd (t.no_root q);
    }

module _ (rom : Rom) (roots : List (ℕ × Key)) (frames : List (List ℕ)) (i : ℕ) (d : List ℕ) (old : List Entry) (lt : i < length frames)
    (h : AllFramed rom roots (take i frames) old) where
  abbrev now : List ℕ
  now = get_or frames i d

  was_taken : (words : List ℕ) → Contains (take i frames) words → Contains (take (suc i) frames) words
  was_taken words c = subst (λ l. Contains l words) (sym (take-suc frames i d lt)) (Contains-append_left (take i frames) (now ∷ []) words c)

  now_taken : Contains (take (suc i) frames) now
  now_taken = subst (λ l. Contains l now) (sym (take-suc frames i d lt))
      (Contains-append_right (take i frames) (now ∷ []) now (0, omega arith, refl))

  module _ (new : List Entry) (ext : Extends old new) (f : IsFramed rom now old new) where
    still_asked : (addr : ℕ) (key : Key) → IsAskedFor rom.machine roots (take i frames) old addr key
        → IsAskedFor rom.machine roots (take (suc i) frames) new addr key
    still_asked addr key a =
        ⊎_elim (λ r. inl r) (λ c. inr (c.0, was_taken c.0 c.1, calls_grow rom.machine c.0 old new ext (h.has_calls c.0 c.1) addr key c.2)) a

    pub framed_next : AllFramed rom roots (take (suc i) frames) new
    framed_next =
        record {
          rooted = λ addr key r. let x = h.rooted addr key r in (x.0, ext addr key x.0 x.1);
          has_calls = λ words c. ⊎_elim (λ x. has_calls_grow rom.machine words old new ext (h.has_calls words x))
              (λ x. subst (λ z. HasCalls rom.machine z new) (only_listed now words x) f.has_calls)
              (Contains-append_cases (take i frames) (now ∷ []) words (subst (λ l. Contains l words) (take-suc frames i d lt) c));
          asked = h.asked ++ f.calls;
          asked_for = λ addr key c. ⊎_elim (λ x. still_asked addr key (h.asked_for addr key x))
              (λ x. inr (now, now_taken, f.calls_are addr key x)) (Contains-append_cases h.asked f.calls (addr, key) c);
          collected = f.collected h.asked h.collected;
          forced = λ list all has calls. f.forced list all (h.forced list all has (λ words c. calls words (was_taken words c)))
              (calls now now_taken);
        }

  -- ---- a call whose entry is not made

  -- a list that has all that is asked for has what is made so far, and the calls of this frame
  module _ (list : List Entry) (all : AllMade rom list)
      (has : (addr : ℕ) (key : Key) → IsAskedFor rom.machine roots frames list addr key → HasEntry list addr key) where
    has_before : Extends old list
    has_before =
        h.forced list all (λ a k r. has a k (inl r))
        (λ words c to scale calls. has to scale (inr (words, in_taken frames i words c, calls)))

    has_now : HasCalls rom.machine now list
    has_now to scale calls = has to scale (inr (now, Contains-get_or frames i d lt, calls))

  none_framed : NoneHasCalls rom now old → NoFramesMade rom roots frames
  none_framed none list m =
      let all = made_all rom (IsAskedFor rom.machine roots frames list) list m in
      none list all (has_before list all m.rooted) (has_now list all m.rooted)

  list_barred : (why : EntryFault) → BarsCalls rom now old why → BarsList rom roots frames why
  list_barred TooManyEntries b = λ list all has. b list all (has_before list all has) (has_now list all has)
  list_barred Memory b = tt
  list_barred why b = none_framed b

  frame_refused : (at : ℕ) (why : EntryFault) → BarsHere rom now old at why
      → FramesRefuse rom roots frames (record { call = Some (record { frame = i; at = at }); why = why })
  frame_refused at why b = record { list = list_barred why b.0; root = tt; frame = (now, slice_get-get_or frames i d lt, b.1, b.2) }

  pub call_refused : (blocked : Blocked) → BlocksHere rom i now old blocked → IsRefused rom roots frames blocked
  call_refused blocked b =
      let told = call_told rom roots frames i d old lt h b.at blocked.chain blocked.obstacle b.told in
      grind (
        arith,
        (frame_refused b.at (obstacle_fault blocked.obstacle) b.bars),
        (obstacle_fault blocked.obstacle),
        (unless blocked.obstacle.cause
            (IsToldOf rom roots frames (Some (record { frame = i; at = b.at })) blocked.chain blocked.obstacle) told),
        told,
      )

-- what a refusal says where there is no frame
pub as_make_fault : (rom : Rom) (roots : List (ℕ × Key)) (why : EntryFault) → BarsList rom roots [] why
    → Refuses rom roots (make_fault_of why)
as_make_fault rom roots TooManyEntries b = λ list m.
    let long = b list (made_all rom (λ addr key. Contains roots (addr, key)) list m) (roots_made rom roots list m).rooted in
    omega (arith, long, m.certificate.few)
as_make_fault rom roots Memory b = tt
as_make_fault rom roots why b = λ list m. b list (roots_made rom roots list m)
