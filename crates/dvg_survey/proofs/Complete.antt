-- No entry that a frame comes to is left out.
use Rattle.dvg_survey.proofs.Common.{add-one, Source, ◌≡◌, ℕ, ◌+◌, ◌≤◌, length-append, length-map, cond, zero, suc, Bool, true, false, List, [], ◌∷◌, ◌++◌, length, take, Option, Some, None, is_some, refl, sym, ◌∙◌, subst, arith, ⊎_elim, All, AllByRecursion, slice_get, Rom, rom_word, Entry, entry_at, Context, all_map, append_assoc, append-nil, shape_context, IsClaim, IsSomeCertificate, listed_at, listed_claim, Call, IsShapeCall, LeadsOn, IsChain, Link, AllSteps, IsBackward, IsStep, entries_of, reach_all, KeyedWord, AreNone, HasWord, frame_word, frame_context, Calls, IsFrameCall, IsReachedByFrame, IsReachedByShape, CallsFrom, IsMet, named_listed, target, scale_before}
use Rattle.std.proofs.lemmas.List.{take_all}
use Rattle.std.proofs.lemmas.List.Elements.{All-from_recursion}
use Rattle.dvg_items.proofs.Lists.{at_place}
use Rattle.dvg_cert.proofs.OnlyEntries.{at_holds}
use Rattle.dvg_survey.proofs.Linking.{there_append, at_or_new, reach_keeps}
use Rattle.dvg_survey.proofs.Coming.{calls_own, is_among, call_named, step_named, step_still, step_within}

-- a link has the address and the key of the entry
abbrev pub is_there : List Link → Entry → Bool
is_there links e = is_some (entry_at (entries_of links) e.addr e.key)

there_still : (links more : List Link) (e : Entry) → is_there links e ≡ true → is_there (links ++ more) e ≡ true
there_still links more e h = grind (arith, there_append)

-- one element more of the first ones
taken : (P : Entry → Type 0) (links more : List Link) (k : ℕ) (l : Link) → slice_get links k ≡ Some l
    → AllByRecursion P (take k (entries_of links)) → P l.call.entry → AllByRecursion P (take (suc k) (entries_of (links ++ more)))
taken P [] more k l is h p = absurd cc
taken P (x ∷ links) more zero l is h p = grind (arith)
taken P (x ∷ links) more (suc k) l is h p = (h.0, taken P links more k l is h.1 p)

-- ---- how many are left

abbrev pub left_of : List Link → List Entry → ℕ
left_of links [] = 0
left_of links (e ∷ es) = cond (is_there links e) 0 1 + left_of links es

none_left : (es : List Entry) → left_of [] es ≡ length es
none_left [] = refl
none_left (e ∷ es) = let h = none_left es in omega (arith, h)

fewer : (links more : List Link) (es : List Entry) → left_of (links ++ more) es ≤ left_of links es
fewer links more [] = omega arith
fewer links more (e ∷ es) = grind (arith, (fewer links more es), (there_append links more e.addr e.key))

one_fewer : (links : List Link) (l : Link) (es : List Entry) → entry_at es l.call.entry.addr l.call.entry.key ≡ Some l.call.entry
    → is_there links l.call.entry ≡ false → left_of (links ++ l ∷ []) es + 1 ≤ left_of links es
one_fewer links l [] named fresh = absurd cc
one_fewer links l (e ∷ es) named fresh =
    grind (arith, (one_fewer links l es), (fewer links (l ∷ []) es), (there_append links (l ∷ []) e.addr e.key), at_holds)

-- ---- calls reached, one after another

module _ (rom : Rom) (words : List ℕ) (list : List Entry) where
  -- each link is a step from an earlier one, and has an entry of its own
  pub record Sound (links : List Link) : Type 0 where
    pub steps : AllSteps rom words list links
    pub back : IsBackward links
    pub counted : left_of links list + length links ≤ length list

  sound_push : (links : List Link) (l : Link) → Sound links → IsStep rom words list links l.from l.call
      → is_there links l.call.entry ≡ false → Sound (links ++ l ∷ [])
  sound_push links l sound s fresh =
      record {
        steps = λ k x is. ⊎_elim
            (λ h. step_still rom words list links (l ∷ []) x.from x.call (sound.steps k x h))
            (λ h. subst (λ (y : Link). IsStep rom words list (links ++ l ∷ []) y.from y.call) (sym h.1)
            (step_still rom words list links (l ∷ []) l.from l.call s))
            (at_or_new links l k x is);
        back = λ k x is. grind (arith, at_or_new, (sound.back k x), (step_within rom words list links l.from l.call s));
        counted = omega (
          arith,
          one_fewer links l list (step_named rom words list links l.from l.call s) fresh,
          length-append links (l ∷ []),
          sound.counted,
        );
      }

  -- the entries of the calls are there, behind what was there before
  record Reaches (old new : List Link) (calls : List Call) : Type 0 where
    more : List Link
    grown : new ≡ old ++ more
    sound : Sound new
    has : AllByRecursion (λ (call : Call). is_there new call.entry ≡ true) calls

  reaches : (links : List Link) (from : Option ℕ) (calls : List Call) → Sound links
      → AllByRecursion (IsStep rom words list links from) calls → Reaches links (reach_all links from calls) calls
  reaches links from [] sound s = record { more = []; grown = sym (append-nil links); sound = sound; has = tt }
  reaches links from (call ∷ rest) sound s =
      let l : Link = record { call = call; from = from } in
      reach_keeps (λ new. Reaches links (reach_all new from rest) (call ∷ rest)) links l
      (λ there. let m = reaches links from rest sound s.1 in
      record { more = m.more; grown = m.grown; sound = m.sound; has = ((grind (arith, there_append, m.grown)), m.has) })
      (λ fresh.
      let m = reaches (links ++ l ∷ []) from rest (sound_push links l sound s.0 fresh)
      (all_map (IsStep rom words list links from) (IsStep rom words list (links ++ l ∷ []) from) rest
      (λ x. step_still rom words list links (l ∷ []) from x) s.1) in
      record {
        more = l ∷ m.more;
        grown = m.grown ∙ append_assoc links (l ∷ []) m.more;
        sound = m.sound;
        has =
            ((grind (arith, there_append, m.grown, at_holds)), m.has);
      })

  module _ (goal : Entry) where
    -- the entry is not the goal, and the entries of its shape's calls are there
    abbrev pub Done : List Link → Entry → Type 0
    Done links e =
        (entry_at list e.addr e.key ≡ Some e) × (e ≡ goal → ⊥)
        × ((call : Call) → IsShapeCall rom list e call → is_there links call.entry ≡ true)

    -- all calls of the frame, of the shapes of the first entries, none of which is the goal, and from the visited places were reached
    pub record Comes (links : List Link) (visited : List Bool) (head : ℕ) : Type 0 where
      pub sound : Sound links
      pub framed : (call : Call) → IsFrameCall rom.machine words list call → is_there links call.entry ≡ true
      pub shaped : AllByRecursion (Done links) (take head (entries_of links))
      pub gone_over : (place : KeyedWord) → HasWord visited place → (call : Call) → CallsFrom rom list place call
          → is_there links call.entry ≡ true

    pub begun : (links : List Link) (visited : List Bool) → IsReachedByFrame rom.machine words list links → AreNone visited
        → Comes links visited 0
    begun links visited (calls, are, is) none =
        let no_links : Sound [] = record { steps = λ k l e. cc e; back = λ k l e. cc e; counted = omega (arith, none_left list) } in
        let r = subst (λ ls. Reaches [] ls calls) (sym is)
        (reaches [] None calls no_links (calls_own (frame_context rom.machine list) (frame_word rom.machine words) 0 calls are)) in
        record {
          sound = r.sound;
          framed = λ call f. is_among (frame_context rom.machine list) (frame_word rom.machine words) 0
              (λ (x : Call). is_there links x.entry ≡ true) call f calls are r.has;
          shaped = tt;
          gone_over = λ place there. let no : true ≡ false = sym there.1 ∙ none place in cc no;
        }

    -- the first shape that was not gone over is not the goal's, and its calls are reached too
    pub gone_on : (links : List Link) (old new : List Bool) (head : ℕ) (l : Link) (all : List Link) → Comes links old head
        → slice_get links head ≡ Some l → (l.call.entry ≡ goal → ⊥) → IsReachedByShape rom list l.call.entry head old new links all
        → Comes all new (head + 1)
    gone_on links old new head l all h is other (calls, by, all_is) =
        let r : Reaches links all calls =
        subst (λ ls. Reaches links ls calls) (sym all_is)
        (reaches links (Some head) calls h.sound
        (all_map (IsShapeCall rom list l.call.entry) (IsStep rom words list links (Some head)) calls (λ x s. (l, is, s)) by.own)) in
        let still : (e : Entry) → is_there links e ≡ true → is_there all e ≡ true =
        λ e there. subst (λ ls. is_there ls e ≡ true) (sym r.grown) (there_still links r.more e there) in
        let met : (call : Call) → IsMet rom list old calls call → is_there all call.entry ≡ true =
        λ call. ⊎_elim (at_place (λ (x : Call). is_there all x.entry ≡ true) calls call r.has)
        (λ b. still call.entry (h.gone_over b.0 b.1 call b.2)) in
        let first = all_map (Done links) (Done all) (take head (entries_of links))
        (λ e d. (d.0, d.1, λ call s. still call.entry (d.2 call s))) h.shaped in
        let next : Done all l.call.entry =
        (step_named rom words list links l.from l.call (h.sound.steps head l is), other, λ call s. met call (by.all call s)) in
        record {
          sound = r.sound;
          framed = λ call f. still call.entry (h.framed call f);
          shaped = rw add-one (subst (λ ls. AllByRecursion (Done all) (take (suc head) (entries_of ls))) (sym r.grown)
              (taken (Done all) links r.more head l is first next));
          gone_over = λ place there call c. met call (by.visited place there call c);
        }

    -- where all shapes were gone over, no chain leads to the goal
    module _ (links : List Link) (visited : List Bool) (head : ℕ) (h : Comes links visited head) (all : length links ≤ head) where
      done_at : (e : Entry) → entry_at list e.addr e.key ≡ Some e → (o : Option Entry) → entry_at (entries_of links) e.addr e.key ≡ o
          → is_some o ≡ true → Done links e
      done_at e named None is there = absurd cc
      done_at e named (Some f) is there =
          let l = listed_at (entries_of links) e.addr e.key f is in
          let d = at_place (Done links) (entries_of links) f
          (subst (AllByRecursion (Done links))
          (take_all head (entries_of links) (subst (λ n. n ≤ head) (sym (length-map links (λ (x : Link). x.call.entry))) all))
          h.shaped) l.listed in
          let same : f ≡ e = cc (d.0, l.addr_is, l.key_is, named) in
          subst (Done links) same d

      none_on : (calls : List Call) (e : Entry) → entry_at list e.addr e.key ≡ Some e → is_there links e ≡ true
          → LeadsOn rom list e calls goal → ⊥
      none_on [] e named there on = (done_at e named (entry_at (entries_of links) e.addr e.key) refl there).1 on
      none_on (call ∷ rest) e named there on =
          none_on rest call.entry (call_named (shape_context rom.machine list e) (rom_word rom) e.addr call on.0)
          ((done_at e named (entry_at (entries_of links) e.addr e.key) refl there).2 call on.0) on.1

      pub no_chain : (calls : List Call) → IsChain rom words list calls goal → ⊥
      no_chain [] c = c
      no_chain (call ∷ rest) c =
          none_on rest call.entry (call_named (frame_context rom.machine list) (frame_word rom.machine words) 0 call c.0)
          (h.framed call c.0) c.1

    -- an entry that was reached is in the list, and so within its limits
    pub reached_claim : (links : List Link) (visited : List Bool) (head k : ℕ) (l : Link) → IsSomeCertificate list
        → Comes links visited head → slice_get links k ≡ Some l → IsClaim l.call.entry
    reached_claim links visited head k l some h is =
        listed_claim list l.call.entry some
        (listed_at list l.call.entry.addr l.call.entry.key l.call.entry
        (step_named rom words list links l.from l.call (h.sound.steps k l is))).listed

-- ---- as the code adds links

-- the entries of calls are in the list, and so within its limits
pub called_claims : (c : Context) (word : Source) (first : ℕ) (calls : List Call) → IsSomeCertificate c.list
    → AllByRecursion (Calls c word first) calls → All (λ (x : Call). IsClaim x.entry) calls
called_claims c word first calls some are =
    All-from_recursion (λ (x : Call). IsClaim x.entry) calls
    (all_map (Calls c word first) (λ x. IsClaim x.entry) calls
    (λ x k. listed_claim c.list x.entry some
    (named_listed c.list (target c.kind k.item.instr) (scale_before c k.earlier) x.entry k.callee_is)) are)
