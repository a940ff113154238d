-- A frame whose calls are made one after another.
use Rattle.dvg_make.proofs.Common.{Machine, ◌≡◌, ℕ, ◌+◌, ◌<◌, ◌≤◌, List, [], ◌∷◌, ◌++◌, length, unwrap_or, Option, Some, None, refl, sym, ap, ◌∙◌, subst, arith, ◌⊎◌, inl, inr, ⊎_elim, Contains, cell_at, InstrFits, Rom, frame_word, ADDRESS_END, Holds, Format, Instr, IsKey, entry_at, Entry, Key, Any, LeadsTo, next_address, frame_context, target, scale_set, callee_at, scale_before, Item, in_bound, HasEntry, AllMade, EntryFault, TooManyEntries, Memory, Extends, IsAim, NoAim, IsDone, InProgress, Bars, IsCalled, Collected, obstacle_fault, HasCalls, IsFramed, BarsHere, PartialEntry, Contains-append_left, Contains-append_right, Contains-append_cases, Source, append_assoc, cases_lt, AtEachOf, next_near, Frame, Barred, AllKeyed, NoneAccepts, BarsEntry, CallBarredAt, AllCalled, IsToldFrom, IsCalledBy, KeyedCall, IsGivenHere, BlocksTarget, BlocksHere, Blocked}
use Rattle.dvg_make.specs.Frames.{IsKeyed}
use Rattle.std.proofs.lemmas.List.{append-nil}
use Rattle.dvg_items.proofs.Leading.{same_lead, shorter, here_same, item_same}
use Rattle.dvg_make.proofs.Matching.{exact_named, none_or_some}
pub use Rattle.dvg_make.proofs.Merging.{Path, path_grows, call_of_path, call_grows, keyed_call, calls_grow, calls_shrink, has_calls_grow, only_listed, extends_more, extends_second, all_merged}
use Rattle.dvg_make.proofs.Chains.{called_grows}
use Rattle.dvg_make.proofs.Bettering.{better}
use Rattle.dvg_make.proofs.FrameBest.{upheld, frame_cover}

pub done_made : (rom : Rom) (done : List Entry) → IsDone rom done → AllMade rom done
done_made rom done h e c = let is = h.entries e c in record { made = h.made e c; words = is.words_high; depth = is.depth }

-- ---- what a refusal means

-- lists of made entries agree, so a list that has the entry would go on from what is made so far
module _ (rom : Rom) (done : List Entry) (is : IsDone rom done) (to : ℕ) (scale : Key) where
  pub entry_barred : NoAim rom done (to, scale) → Barred rom to scale
  entry_barred none list all has =
      let mine = done_made rom done is in
      none (done ++ list) (record {
        all = all_merged rom done list mine all;
        extends = extends_more done list;
        has =
            (has.0, extends_second rom done list mine all to scale has.0 has.1);
      })

  pub bars_entry : (why : EntryFault) → Bars rom done (to, scale) why → BarsEntry rom to scale why
  bars_entry TooManyEntries b = tt
  bars_entry Memory b = tt
  bars_entry why b = entry_barred b

-- ---- the items of a frame end

module _ (machine : Machine) (words : List ℕ) (list : List Entry) where
  abbrev word : Source
  word = frame_word machine words

  -- what stands there, if anything does, is keyed
  abbrev KeyedThere : List Item → ℕ → Type 0
  KeyedThere earlier p = (i : Item) → i.at ≡ p → cell_at word p ≡ Holds i.format i.instr → IsKeyed machine list earlier i

  each_there : (items : List Item) (p : ℕ) → LeadsTo Frame word 0 items p → AllKeyed machine list items → AtEachOf KeyedThere items
  each_there [] p lead keyed = tt
  each_there (i ∷ earlier) p lead keyed = (
    each_there earlier i.at lead.0 keyed.0,
    λ j at is. subst (IsKeyed machine list earlier) (item_same i j (sym at) (sym lead.1 ∙ is)) keyed.1,
  )

  -- what stands here, if anything does, is the last and is keyed
  module _ (items : List Item) (p : ℕ) (lead : LeadsTo Frame word 0 items p) (keyed : AllKeyed machine list items)
      (last : (i : Item) → i.at ≡ p → cell_at word p ≡ Holds i.format i.instr → (next_address Frame i ≡ None)
      × IsKeyed machine list items i) where
    none_past : (earlier : List Item) (q : ℕ) → LeadsTo Frame word 0 earlier q → length items < length earlier → ⊥
    none_past [] q h lt = omega (arith, lt)
    none_past (j ∷ earlier) q h lt =
        ⊎_elim
        (λ less. none_past earlier j.at h.0 less)
        (λ le. let s = same_lead Frame word 0 earlier items j.at p h.0 lead (omega (arith, lt, le)) in let no : Some q ≡ None =
        sym h.2 ∙ (last j s.place (sym (ap (cell_at word) s.place) ∙ h.1)).0 in cc no)
        (cases_lt (length items) (length earlier))

    pub ends : HasCalls machine words list
    ends to scale c = subst (HasEntry list to) c.scale_is (there c.item refl c.stands to c.target_is)
      where
        there : KeyedThere c.earlier c.item.at
        there =
            ⊎_elim
            (λ less. shorter Frame word 0 KeyedThere items p lead (each_there items p lead keyed) c.earlier c.item.at c.leads less)
            (λ le. ⊎_elim
            (λ more. absurd (none_past c.earlier c.item.at c.leads more))
            (λ ge. here_same Frame word 0 KeyedThere c.earlier items c.item.at p
            (same_lead Frame word 0 c.earlier items c.item.at p c.leads lead (omega (arith, le, ge))) (λ i at is. (last i at is).1))
            (cases_lt (length items) (length c.earlier)))
            (cases_lt (length c.earlier) (length items))

-- ---- what is asked for, one more

pub collected_more : (rom : Rom) (asked : List (ℕ × Key)) (old new : List Entry) (addr : ℕ) (key : Key) → Collected rom asked old
    → InProgress rom old (addr, key) new [] → HasEntry new addr key → Collected rom (asked ++ (addr, key) ∷ []) new
collected_more rom asked old new addr key h m has =
    record {
      is_done = m.is_done;
      rooted = λ a k c. ⊎_elim (λ x. let f = h.rooted a k x in (f.0, m.extends a k f.0 f.1))
          (λ x. subst (λ (r : ℕ × Key). HasEntry new r.0 r.1) (only_listed (addr, key) (a, k) x) has)
          (Contains-append_cases asked ((addr, key) ∷ []) (a, k) c);
      needed = λ a k x. grind (
        arith,
        (m.needed a k (inl x)),
        (h.needed a k),
        Contains-append_left,
        Contains-append_right,
        (called_grows rom old new [] [] m.extends),
      );
      forced = λ made all has_all. (m.forced made
          (record {
            all = all;
            extends =
                h.forced made all (λ a k c. has_all a k (Contains-append_left asked ((addr, key) ∷ []) (a, k) c));
            has =
                has_all addr key (Contains-append_right asked ((addr, key) ∷ []) (addr, key) (0, omega arith, refl));
          })).0;
    }

-- ---- what is needed

-- what the entries from before were made for, and what is asked for now, or what an entry or a shape in the making calls
pub called_told : (rom : Rom) (from list : List Entry) (root : ℕ × Key) (chain : List PartialEntry) (P : ℕ → Key → Type 0)
    → Extends from list → AllCalled rom from root list chain → ((a : ℕ) (k : Key) → HasEntry from a k → P a k ⊎ IsCalled rom from [] a k)
    → P root.0 root.1 → (a : ℕ) (k : Key) → HasEntry list a k → P a k ⊎ IsCalled rom list chain a k
called_told rom from list root chain P ext all was asked a k has = grind (arith, called_grows)

-- ---- the walk along a frame

-- what was asked for on the way, and is made
pub record Asked (rom : Rom) (words : List ℕ) (old done : List Entry) (calls : List (ℕ × Key)) : Type 0 where
  pub calls_are : (to : ℕ) (key : Key) → Contains calls (to, key) → KeyedCall rom.machine words done to key
  pub collected : (asked : List (ℕ × Key)) → Collected rom asked old → Collected rom (asked ++ calls) done
  pub forced : (list : List Entry) → AllMade rom list → Extends old list → HasCalls rom.machine words list → Extends done list

pub record FrameWalk (rom : Rom) (words : List ℕ) (old done : List Entry) (at : ℕ) (scale : Key) : Type 0 where
  pub is_done : IsDone rom done
  pub grows : Extends old done
  pub path : Path rom.machine words done at scale
  pub is_key : IsKey scale
  pub near : at ≤ ADDRESS_END + 2
  pub calls : List (ℕ × Key)
  pub asked : Asked rom words old done calls

walk_of : (rom : Rom) (words : List ℕ) (old done : List Entry) (at : ℕ) (scale : Key) → IsDone rom done → Extends old done
    → Path rom.machine words done at scale → IsKey scale → at ≤ ADDRESS_END + 2 → (calls : List (ℕ × Key))
    → Asked rom words old done calls → FrameWalk rom words old done at scale
walk_of rom words old done at scale d g p k n c a = record { is_done = d; grows = g; path = p; is_key = k; near = n; calls = c; asked = a }

framed : (rom : Rom) (words : List ℕ) (old done : List Entry) (calls : List (ℕ × Key)) → Asked rom words old done calls
    → HasCalls rom.machine words done → IsFramed rom words old done
framed rom words old done calls a has =
    record {
      has_calls = has;
      calls = calls;
      calls_are = λ to key x. (a.calls_are to key x).calls;
      collected = a.collected;
      forced =
          a.forced;
    }

pub starts : (rom : Rom) (words : List ℕ) (done : List Entry) → IsDone rom done → FrameWalk rom words done done 0 Any
starts rom words done h =
    walk_of rom words done done 0 Any h (λ a k e q. q) (record { items = []; leads = refl; keyed = tt; scale_is = refl }) tt
    (omega arith) []
    (record {
      calls_are = λ to key c. absurd (omega (arith, c.1));
      collected =
          λ asked c. subst (λ a. Collected rom a done) (sym (append-nil asked)) c;
      forced = λ list all ext has. ext;
    })

module _ (rom : Rom) (words : List ℕ) (old done : List Entry) (at : ℕ) (scale : Key) (w : FrameWalk rom words old done at scale)
    (format : Format) (instr : Instr) (is : cell_at (frame_word rom.machine words) at ≡ Holds format instr) where
  abbrev item : Item
  item = record { at = at; format = format; instr = instr }

  module _ (to : ℕ) (t : target Frame instr ≡ Some to) where
    -- the call by a list that has the entries so far
    abbrev called_by : (list : List Entry) → Extends done list → KeyedCall rom.machine words list to scale
    called_by list ext = call_of_path rom.machine words list item to scale (path_grows rom.machine words done list ext at scale w.path) is t

    -- a list that has the calls of the frame has this call's entry
    aim : (list : List Entry) → AllMade rom list → Extends old list → HasCalls rom.machine words list → IsAim rom done (to, scale) list
    aim list all ext has_calls =
        let e = w.asked.forced list all ext has_calls in
        record { all = all; extends = e; has = has_calls to scale (called_by list e).calls }

    call_made : (new : List Entry) → InProgress rom done (to, scale) new [] → HasEntry new to scale → FrameWalk rom words old new at scale
    call_made new m has =
        walk_of rom words old new at scale m.is_done (λ a k e q. m.extends a k e (w.grows a k e q))
        (path_grows rom.machine words done new m.extends at scale w.path) w.is_key w.near (w.calls ++ (to, scale) ∷ [])
        (record {
          calls_are = λ a k c. ⊎_elim (λ x. call_grows rom.machine words done new m.extends a k (w.asked.calls_are a k x))
              (λ x. subst (λ (r : ℕ × Key). KeyedCall rom.machine words new r.0 r.1) (only_listed (to, scale) (a, k) x)
              (called_by new m.extends)) (Contains-append_cases w.calls ((to, scale) ∷ []) (a, k) c);
          collected = λ asked c. subst (λ a. Collected rom a new) (append_assoc asked w.calls ((to, scale) ∷ []))
              (collected_more rom (asked ++ w.calls) done new to scale (w.asked.collected asked c) m has);
          forced = λ list all ext has_calls. (m.forced list (aim list all ext has_calls)).0;
        })

    -- ---- the entry is not made

    stops : (why : EntryFault) → BarsEntry rom to scale why → CallBarredAt rom words at why
    stops why b =
        let k = call_of_path rom.machine words done item to scale w.path is t in
        record {
          list = done;
          made = done_made rom done w.is_done;
          to = to;
          scale = scale;
          call =
              record { calls = k.calls; at_is = refl; before = k.keyed };
          barred = b;
        }

    module _ (no : NoAim rom done (to, scale)) where
      none_accepts : NoneAccepts rom words
      none_accepts v mode list budget count depth a =
          let up = upheld rom list v a.certificate (in_bound v rom list mode a.good) in
          let cover = frame_cover rom list up words v budget a.frame.keeps done (done_made rom done w.is_done) to scale
          (call_of_path rom.machine words done item to scale w.path is t) in
          let b = better rom list up cover.0 cover.1 scale cover.2.key in
          entry_barred rom done w.is_done to scale no b.list b.all
          (b.f, subst (λ a. entry_at b.list a scale ≡ Some b.f) cover.2.addr b.found_it)

    call_barred : (why : EntryFault) → Bars rom done (to, scale) why → BarsHere rom words old at why
    call_barred TooManyEntries b = ((λ list all ext has_calls. b list (aim list all ext has_calls)), stops TooManyEntries tt, tt)
    call_barred Memory b = (tt, stops Memory tt, tt)
    call_barred why b = (
      (λ list all ext has_calls. b list (aim list all ext has_calls)),
      stops why (entry_barred rom done w.is_done to scale b),
      none_accepts b,
    )

  -- ---- past the item

  -- its entry is made, if it calls one
  pub record Called (new : List Entry) (callee : Option Entry) : Type 0 where
    pub partial : FrameWalk rom words old new at scale
    its : IsKeyed rom.machine new partial.path.items item
    callee_is : callee ≡ callee_at new (target Frame instr) scale

  pub called : (new : List Entry) (callee : Option Entry) → IsCalledBy rom done instr scale new callee → Called new callee
  called new callee c =
      let partial : FrameWalk rom words old new at scale =
      ⊎_elim (λ t. subst (λ d. FrameWalk rom words old d at scale) (sym (c.none t).0) w)
      (λ t. let m = c.some t.0 t.1 in call_made t.0 t.1 new m.0 m.1) (none_or_some (target Frame instr)) in
      let named : callee ≡ callee_at new (target Frame instr) scale = grind (arith, exact_named) in
      record {
        partial = partial;
        its = λ to t. subst (HasEntry new to) (sym partial.path.scale_is) (c.some to t).1;
        callee_is = named;
      }

  module _ (new : List Entry) (callee : Option Entry) (c : IsCalledBy rom done instr scale new callee) where
    pub goes_on : (past : Key) → past ≡ unwrap_or (scale_set instr callee) scale → IsKey past → at < ADDRESS_END → InstrFits instr
        → (next : ℕ) → next_address Frame item ≡ Some next → FrameWalk rom words old new next past
    goes_on past past_is key near fits next goes =
        let h = called new callee c in
        let scale_is : scale_before (frame_context rom.machine new) (item ∷ h.partial.path.items) ≡ past =
        grind (arith, h.partial.path.scale_is, h.callee_is) in
        let path : Path rom.machine words new next past =
        record {
          items = item ∷ h.partial.path.items;
          leads = (h.partial.path.leads, is, goes);
          keyed =
              (h.partial.path.keyed, h.its);
          scale_is = scale_is;
        } in
        walk_of rom words old new next past h.partial.is_done h.partial.grows path key
        (next_near Frame at format instr next near fits goes) h.partial.calls h.partial.asked

    pub at_last : next_address Frame item ≡ None → IsFramed rom words old new
    at_last none =
        let h = called new callee c in
        framed rom words old new h.partial.calls h.partial.asked
        (ends rom.machine words new h.partial.path.items at h.partial.path.leads h.partial.path.keyed
        (λ i here it. let same : item ≡ i = item_same item i (sym here) (sym is ∙ it) in
        (subst (λ (j : Item). next_address Frame j ≡ None) same none, subst (IsKeyed rom.machine new h.partial.path.items) same h.its)))

pub at_nothing : (rom : Rom) (words : List ℕ) (old done : List Entry) (at : ℕ) (scale : Key) → FrameWalk rom words old done at scale
    → ((format : Format) (instr : Instr) → cell_at (frame_word rom.machine words) at ≡ Holds format instr → ⊥) → IsFramed rom words old done
at_nothing rom words old done at scale w not =
    framed rom words old done w.calls w.asked
    (ends rom.machine words done w.path.items at w.path.leads w.path.keyed (λ i here it. absurd (not i.format i.instr it)))

-- a refusal of the entry that the item calls is one of the frame's call
pub target_blocked : (rom : Rom) (words : List ℕ) (old done : List Entry) (at : ℕ) (scale : Key) → FrameWalk rom words old done at scale
    → (format : Format) (instr : Instr) → cell_at (frame_word rom.machine words) at ≡ Holds format instr → (blocked : Blocked)
    → BlocksTarget rom done instr scale blocked → (index : ℕ)
    → BlocksHere rom index words old
    (record { call = Some (record { frame = index; at = at }); chain = blocked.chain; obstacle = blocked.obstacle })
target_blocked rom words old done at scale w format instr is blocked b index =
    let t : IsToldFrom rom done (b.0, scale) blocked.chain blocked.obstacle = b.2.told in
    let call : KeyedCall rom.machine words t.list b.0 scale =
    called_by rom words old done at scale w format instr is b.0 b.1 t.list t.extends in
    let given : (asked : List (ℕ × Key)) → Collected rom asked old → (a : ℕ) (k : Key) → HasEntry done a k
    → IsGivenHere rom.machine words asked t.list a k ⊎ IsCalled rom done [] a k =
    λ asked h a k has. grind (
      arith,
      ((w.asked.collected asked h).needed a k has),
      (Contains-append_cases asked w.calls (a, k)),
      (call_grows rom.machine words done t.list t.extends a k),
      (w.asked.calls_are a k),
    ) in
    record {
      at = at;
      call = refl;
      bars = call_barred rom words old done at scale w format instr is b.0 b.1 (obstacle_fault blocked.obstacle) b.2.bars;
      told = record {
        list = t.list;
        within = t.is_done.entries;
        made = done_made rom t.list t.is_done;
        to = b.0;
        scale = scale;
        call = record { calls = call.calls; at_is = refl; before = call.keyed };
        extends = λ a k e q. t.extends a k e (w.grows a k e q);
        needed = λ asked h. called_told rom done t.list (b.0, scale) blocked.chain (IsGivenHere rom.machine words asked t.list) t.extends
            t.needed (given asked h) (inr call);
        room = t.room;
        tells = t.tells;
        no_root = b.2.no_root;
      };
    }
