-- The shapes in the making, and the entries that every made list has for them.
use Rattle.dvg_make.proofs.Common.{◌≡◌, ℕ, ◌+◌, ◌<◌, ◌≤◌, List, [], ◌∷◌, ◌++◌, length, Some, None, refl, sym, ap, ◌∙◌, subst, arith, ◌⊎◌, inl, inr, ⊎_elim, length-append, Rom, rom_word, IsEntry, option_or, is_at, entry_at, Entry, Key, at_holds, LeadsTo, shape_context, scale_before, Item, Shape, Known, MOST_ENTRIES, MOST_WORDS, PartialEntry, MadeEntry, keyed_context, start, IsPartial, Extends, IsFinished, IsWaiting, IsMaking, ArePartial, Chain, Apart, IsPresent, IsCalled, IsAim, NoAim, IsDone, InProgress, listed_at, Contains-append_cases, NeverAt, IsTail, IsUnique, IsGiven}
use Rattle.dvg_make.proofs.Matching.{entry_at-append}
use Rattle.dvg_make.proofs.Ends.{callee_less, made_some}
use Rattle.dvg_make.proofs.Linking.{are_grown, are_popped}
use Rattle.dvg_make.proofs.Merging.{extends_more, only_listed, scale_grows, taken_grows, walk_grows, made_grows, same_made}
use Rattle.dvg_make.proofs.Onward.{fine_taken}

-- ---- chains of needs

chain_below : (made : List Entry) (most n : ℕ) (stack : List PartialEntry) → Chain made most stack n → n < most
chain_below made most n [] h = h
chain_below made most n (w ∷ stack) h = let lt = chain_below made h.0.words n stack h.3 in omega (arith, lt, h.2)

chain_less : (made : List Entry) (most n m : ℕ) (stack : List PartialEntry) → m ≤ n → Chain made most stack n → Chain made most stack m
chain_less made most n m [] le h = omega (arith, h)
chain_less made most n m (w ∷ stack) le h = (h.0, h.1, h.2, chain_less made h.0.words n m stack le h.3)

chain_push : (made : List Entry) (most n : ℕ) (stack : List PartialEntry) (w : PartialEntry) (f : Entry)
    → entry_at made w.addr w.key ≡ Some f → n < f.words → Chain made most stack f.words → Chain made most (stack ++ w ∷ []) n
chain_push made most n [] w f e lt h = (f, e, h, lt)
chain_push made most n (v ∷ stack) w f e lt h = (h.0, h.1, h.2, chain_push made h.0.words n stack w f e lt h.3)

chain_pop : (made : List Entry) (most n : ℕ) (stack : List PartialEntry) (w : PartialEntry) → Chain made most (stack ++ w ∷ []) n
    → (f : Entry) × (entry_at made w.addr w.key ≡ Some f) × Chain made most stack f.words
chain_pop made most n [] w h = (h.0, h.1, h.2)
chain_pop made most n (v ∷ stack) w h = let p = chain_pop made h.0.words n stack w h.3 in (p.0, p.1, (h.0, h.1, h.2, p.2))

-- a shape that is being made has more words
chain_has : (made : List Entry) (most n : ℕ) (stack : List PartialEntry) (addr : ℕ) (key : Key) (g : Entry) → IsMaking stack addr key
    → Chain made most stack n → entry_at made addr key ≡ Some g → n < g.words
chain_has made most n [] addr key g m h e = absurd m
chain_has made most n (v ∷ stack) addr key g (inl same) h e = grind (arith, entry_at, chain_below)
chain_has made most n (v ∷ stack) addr key g (inr later) h e = chain_has made h.0.words n stack addr key g later h.3 e

-- ---- no list

module _ (rom : Rom) (from : List Entry) (root : ℕ × Key) (done : List Entry) (stack : List PartialEntry) (partial : PartialEntry)
    (h : InProgress rom from root done (stack ++ partial ∷ [])) where
  pub none_here : NeverAt rom done partial.addr partial.key → NoAim rom from root
  none_here none made m =
      let f = h.forced made m in
      let p = chain_pop made (MOST_WORDS + 1) 0 stack partial f.1 in
      none made m.all f.0 (p.0, p.1)

  module _ (new : PartialEntry) (addr : ℕ) (w : IsWaiting rom done partial new addr) where
    abbrev at_key : Key
    at_key = new.cursor.known.scale

    -- the entry that the shape in the making calls for: it has words, and fewer than those of the shapes
    callee : (made : List Entry) → IsAim rom from root made → (g : Entry) × (entry_at made addr at_key ≡ Some g) × (0 < g.words)
        × Chain made (MOST_WORDS + 1) (stack ++ new ∷ []) g.words
    callee made m =
        let f = h.forced made m in
        let p = chain_pop made (MOST_WORDS + 1) 0 stack partial f.1 in
        let l = listed_at made partial.addr partial.key p.0 p.1 in
        let is = (m.all p.0 l.listed).made in
        let addr_is : new.addr ≡ p.0.addr = w.same_addr ∙ sym l.addr_is in
        let key_is : new.key ≡ p.0.key = w.same_key ∙ sym l.key_is in
        let i : Item = w.item in
        let lead : LeadsTo Shape (rom_word rom) p.0.addr w.partial.items i.at =
        subst (λ x. LeadsTo Shape (rom_word rom) p.0.addr w.partial.items x) (sym w.at)
        (subst (λ x. LeadsTo Shape (rom_word rom) x w.partial.items new.cursor.at) addr_is w.partial.leads) in
        let g = is.keyed w.partial.items i lead w.stands addr w.target_is in
        let scale : scale_before (shape_context rom.machine made p.0) w.partial.items ≡ at_key =
        ap (λ (x : Key). scale_before (keyed_context rom.machine made x) w.partial.items) (sym key_is)
        ∙ sym (scale_grows rom.machine done made new.key f.0 w.partial.items w.partial.knows.fine)
        ∙ sym (ap (λ (x : Known). x.scale) w.partial.knows.known_is)
        in
        let there : entry_at made addr at_key ≡ Some g.0 = subst (λ (x : Key). entry_at made addr x ≡ Some g.0) scale g.1 in
        let some = made_some rom made g.0 (m.all g.0 (listed_at made addr at_key g.0 there).listed).made in
        let less = callee_less rom made p.0 is w.partial.items i lead w.stands addr g.0 w.target_is g.1 in
        let found_new : entry_at made new.addr new.key ≡ Some p.0 =
        subst (λ x. entry_at made x new.key ≡ Some p.0) (sym w.same_addr)
        (subst (λ x. entry_at made partial.addr x ≡ Some p.0) (sym w.same_key) p.1) in
        (g.0, there, omega (arith, some), chain_push made (MOST_WORDS + 1) g.0.words stack new p.0 found_new less p.2)

    -- it is being made already
    pub none_deep : IsMaking (stack ++ new ∷ []) addr at_key → NoAim rom from root
    none_deep making made m =
        let c = callee made m in
        let lt = chain_has made (MOST_WORDS + 1) c.0.words (stack ++ new ∷ []) addr at_key c.0 making c.3 c.1 in
        omega (arith, lt)

    pub forced_begun : (made : List Entry) → IsAim rom from root made → Extends done made
        × Chain made (MOST_WORDS + 1) ((stack ++ new ∷ []) ++ start addr at_key ∷ []) 0
    forced_begun made m =
        let c = callee made m in
        ((h.forced made m).0, chain_push made (MOST_WORDS + 1) 0 (stack ++ new ∷ []) (start addr at_key) c.0 c.1 c.2 c.3)

-- ---- the stack

pub making_append : (stack more : List PartialEntry) (addr : ℕ) (key : Key) → IsMaking (stack ++ more) addr key → IsMaking stack addr key
    ⊎ IsMaking more addr key
making_append [] more addr key h = inr h
making_append (v ∷ stack) more addr key m = grind (arith, (making_append stack more addr key))

pub making_left : (stack more : List PartialEntry) (addr : ℕ) (key : Key) → IsMaking stack addr key → IsMaking (stack ++ more) addr key
making_left [] more addr key h = absurd h
making_left (v ∷ stack) more addr key m = grind (arith, (making_left stack more addr key))

pub making_last : (stack : List PartialEntry) (w : PartialEntry) (addr : ℕ) (key : Key) → w.addr ≡ addr → w.key ≡ key
    → IsMaking (stack ++ w ∷ []) addr key
making_last [] w addr key a k = inl (a, k)
making_last (v ∷ stack) w addr key a k = inr (making_last stack w addr key a k)

pub apart_pop : (done : List Entry) (stack : List PartialEntry) (w : PartialEntry) → Apart done (stack ++ w ∷ []) → Apart done stack
    × (entry_at done w.addr w.key ≡ None) × (IsMaking stack w.addr w.key → ⊥)
apart_pop done [] w h = (tt, h.0, λ m. m)
apart_pop done (v ∷ stack) w h = grind (arith, (apart_pop done stack w h.2), making_left, making_last)

pub apart_push : (done : List Entry) (stack : List PartialEntry) (w : PartialEntry) → Apart done stack
    → entry_at done w.addr w.key ≡ None → (IsMaking stack w.addr w.key → ⊥) → Apart done (stack ++ w ∷ [])
apart_push done [] w h none other = (none, λ m. m, tt)
apart_push done (v ∷ stack) w h none other = grind (arith, making_append, (apart_push done stack w h.2 none))

-- an entry that is found in no other
find_one : (e : Entry) (addr : ℕ) (key : Key) → ((e.addr ≡ addr) × (e.key ≡ key) → ⊥) → entry_at (e ∷ []) addr key ≡ None
find_one e addr key not = grind (arith, entry_at, listed_at)

apart_more : (done : List Entry) (stack : List PartialEntry) (e : Entry) → Apart done stack → (IsMaking stack e.addr e.key → ⊥)
    → Apart (done ++ e ∷ []) stack
apart_more done [] e h not = tt
apart_more done (v ∷ stack) e h not = grind (arith, entry_at-append, option_or, find_one, (apart_more done stack e h.2))

pub walks_pop : (rom : Rom) (done : List Entry) (stack more : List PartialEntry) → ArePartial rom done (stack ++ more)
    → ArePartial rom done stack
walks_pop rom done [] more h = tt
walks_pop rom done (v ∷ stack) more h = (h.0, walks_pop rom done stack more h.1)

pub walks_last : (rom : Rom) (done : List Entry) (stack : List PartialEntry) (w : PartialEntry) → ArePartial rom done (stack ++ w ∷ [])
    → IsPartial rom done w
walks_last rom done [] w h = h.0
walks_last rom done (v ∷ stack) w h = walks_last rom done stack w h.1

pub walks_push : (rom : Rom) (done : List Entry) (stack : List PartialEntry) (w : PartialEntry) → ArePartial rom done stack
    → IsPartial rom done w → ArePartial rom done (stack ++ w ∷ [])
walks_push rom done [] w h i = (i, tt)
walks_push rom done (v ∷ stack) w h i = (h.0, walks_push rom done stack w h.1 i)

walks_grow : (rom : Rom) (a b : List Entry) (stack : List PartialEntry) → Extends a b → ArePartial rom a stack → ArePartial rom b stack
walks_grow rom a b [] ext h = tt
walks_grow rom a b (v ∷ stack) ext h = (walk_grows rom a b v ext h.0, walks_grow rom a b stack ext h.1)

-- ---- one entry more

unique_more : (done : List Entry) (e : Entry) → IsUnique done → entry_at done e.addr e.key ≡ None → IsUnique (done ++ e ∷ [])
unique_more [] e u none = (refl, tt)
unique_more (x ∷ done) e u none = grind (arith, is_at, at_holds, entry_at, entry_at-append, option_or, find_one, (unique_more done e u.1))

-- one made entry more
pub done_more : (rom : Rom) (done : List Entry) (e : Entry) → IsDone rom done → IsTail rom done e → entry_at done e.addr e.key ≡ None
    → length done < MOST_ENTRIES → IsDone rom (done ++ e ∷ [])
done_more rom done e h f new few =
    let ext = extends_more done (e ∷ []) in
    let len : length (done ++ e ∷ []) ≡ length done + 1 = length-append done (e ∷ []) in
    record {
      entries = λ x c. ⊎_elim (λ c. h.entries x c) (λ c. subst (IsEntry rom.map.rom_first rom.map.rom_last) (only_listed e x c) f.entry)
          (Contains-append_cases done (e ∷ []) x c);
      made = λ x c. ⊎_elim (λ c. made_grows rom done (done ++ e ∷ []) x ext (h.made x c))
          (λ c. subst (MadeEntry rom (done ++ e ∷ [])) (only_listed e x c) (made_grows rom done (done ++ e ∷ []) e ext f.made))
          (Contains-append_cases done (e ∷ []) x c);
      unique = unique_more done e h.unique new;
      room = omega (arith, few, len);
    }

-- ---- who needs what

pub called_grows : (rom : Rom) (a b : List Entry) (old new : List PartialEntry) → Extends a b
    → ((addr : ℕ) (key : Key) → IsPresent a old addr key → IsPresent b new addr key) → (addr : ℕ) (key : Key)
    → IsCalled rom a old addr key → IsCalled rom b new addr key
called_grows rom a b old new ext present addr key c = grind (arith, taken_grows, scale_grows, fine_taken, keyed_context)

abbrev pub IsNeeded : Rom → List Entry → ℕ × Key → List Entry → List PartialEntry → ℕ → Key → Type 0
IsNeeded rom from root done stack addr key = IsGiven from root addr key ⊎ IsCalled rom done stack addr key

pub needed_grows : (rom : Rom) (from : List Entry) (root : ℕ × Key) (a b : List Entry) (old new : List PartialEntry) → Extends a b
    → ((addr : ℕ) (key : Key) → IsPresent a old addr key → IsPresent b new addr key) → (addr : ℕ) (key : Key)
    → IsNeeded rom from root a old addr key → IsNeeded rom from root b new addr key
needed_grows rom from root a b old new ext present addr key n = grind (arith, (called_grows rom a b old new ext present addr key))

module _ (rom : Rom) (from : List Entry) (root : ℕ × Key) (done : List Entry) (stack : List PartialEntry) (partial : PartialEntry)
    (h : InProgress rom from root done (stack ++ partial ∷ [])) where
  long : length (stack ++ partial ∷ []) ≡ length stack + 1
  long = length-append stack (partial ∷ [])

  module _ (e : Entry) (f : IsFinished rom done partial e) where
    pub finished_new : entry_at done e.addr e.key ≡ None
    finished_new =
        subst (λ a. entry_at done a e.key ≡ None) (sym f.addr)
        (subst (λ k. entry_at done partial.addr k ≡ None) (sym f.key) (apart_pop done stack partial h.apart).1)

    found_more : (made : List Entry) → IsAim rom from root made → Extends (done ++ e ∷ []) made
    found_more made m addr key g q =
        let p = chain_pop made (MOST_WORDS + 1) 0 stack partial (h.forced made m).1 in
        let pl = listed_at made partial.addr partial.key p.0 p.1 in
        let same : e ≡ p.0 =
        same_made rom done made e p.0 (h.forced made m).0 f.made (m.all p.0 pl.listed).made (f.addr ∙ sym pl.addr_is)
        (f.key ∙ sym pl.key_is) in
        grind (arith, entry_at, option_or, entry_at-append, (h.forced made m).0, pl, listed_at)

    ends_at : entry_at (done ++ e ∷ []) partial.addr partial.key ≡ Some e
    ends_at = grind (
      arith,
      (apart_pop done stack partial h.apart),
      (entry_at (e ∷ []) partial.addr partial.key),
      (at_holds partial.addr partial.key e f.addr f.key),
      f,
      (entry_at-append done (e ∷ []) partial.addr partial.key),
      option_or,
    )

    pub present_finished : (addr : ℕ) (key : Key) → IsPresent done (stack ++ partial ∷ []) addr key
        → IsPresent (done ++ e ∷ []) stack addr key
    present_finished addr key h2 = grind (arith, extends_more, ends_at, (making_append stack (partial ∷ []) addr key))

    was_present : (addr : ℕ) (key : Key) → IsPresent (done ++ e ∷ []) stack addr key → IsPresent done (stack ++ partial ∷ []) addr key
    was_present addr key h2 = grind (arith, making_left, entry_at, option_or, entry_at-append, listed_at, only_listed, making_last, f)

    pub making_finished : InProgress rom from root (done ++ e ∷ []) stack
    making_finished =
        let ext = extends_more done (e ∷ []) in
        let pop = apart_pop done stack partial h.apart in
        let len : length (done ++ e ∷ []) ≡ length done + 1 = length-append done (e ∷ []) in
        record {
          is_done = done_more rom done e h.is_done (record { entry = f.entry; made = f.made }) finished_new (omega (arith, h.room, long));
          extends = λ a k x q. ext a k x (h.extends a k x q);
          partials = walks_grow rom done (done ++ e ∷ []) stack ext (walks_pop rom done stack (partial ∷ []) h.partials);
          apart = apart_more done stack e pop.0
              (λ m. pop.2 (subst (λ a. IsMaking stack a partial.key) f.addr (subst (λ k. IsMaking stack e.addr k) f.key m)));
          linked = are_grown rom done (done ++ e ∷ []) ext root stack (are_popped rom done root stack partial h.linked);
          needed = λ addr key p. needed_grows rom from root done (done ++ e ∷ []) (stack ++ partial ∷ []) stack ext present_finished addr
              key (h.needed addr key (was_present addr key p));
          room = omega (arith, h.room, long, len);
          forced = λ made m. let p = chain_pop made (MOST_WORDS + 1) 0 stack partial (h.forced made m).1 in
              (found_more made m, chain_less made (MOST_WORDS + 1) p.0.words 0 stack (omega arith) p.2);
        }
