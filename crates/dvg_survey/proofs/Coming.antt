-- What a frame comes to, link after link: each link is a step, and in the end no entry that the frame comes to is left out.
use Rattle.dvg_survey.proofs.Common.{Source, stand_before, ◌≡◌, ℕ, ◌<◌, List, [], ◌∷◌, ◌++◌, length, sym, subst, Option, None, Some, slice_get_within, arith, AllByRecursion, IfSome, Rom, Entry, entry_at, Item, Context, callee, all_append, listed_at, Call, Stand, AreCalls, call_of, calls_among, Link, IsStep, all_left, all_right, Calls}
use Rattle.dvg_survey.proofs.AllItems.{up_to}
use Rattle.dvg_survey.proofs.Linking.{at_still}

-- ---- the calls of all items

module _ (c : Context) (word : Source) (first : ℕ) where
  pub one_call : (i : Item) (earlier : List Item) → Stand c.kind word first (i ∷ earlier) → (o : Option Entry)
      → callee c earlier i.instr ≡ o → AllByRecursion (Calls c word first) (call_of i o)
  one_call i earlier h h3 e = grind (arith)

  -- each of them is one
  calls_hold : (items : List Item) → Stand c.kind word first items → AllByRecursion (Calls c word first) (calls_among c items)
  calls_hold [] h = tt
  calls_hold (i ∷ earlier) h =
      grind (
        arith,
        all_append,
        calls_among,
        call_of,
        callee,
        (calls_hold earlier (stand_before c.kind word first earlier i.at h.0)),
        stand_before,
        one_call,
      )

  pub calls_own : (calls : List Call) → AreCalls c word first calls → AllByRecursion (Calls c word first) calls
  calls_own calls (all, are, is) = subst (AllByRecursion (Calls c word first)) (sym is) (calls_hold all are.stand)

  -- and each one is among them
  module _ (P : Call → Type 0) (call : Call) (k : Calls c word first call) where
    pub is_among : (calls : List Call) → AreCalls c word first calls → AllByRecursion P calls → P call
    is_among calls (all, are, is) h =
        let own = up_to c.kind word first (λ items. AllByRecursion P (calls_among c items))
        (λ i rest. all_left P (calls_among c rest) (call_of i (callee c rest i.instr))) all are (subst (AllByRecursion P) is h)
        (k.item ∷ k.earlier) (k.leads, k.stands) in
        grind (
          arith,
          calls_among,
          call_of,
          callee,
          (all_right P (calls_among c k.earlier) (call_of k.item (callee c k.earlier k.item.instr)) own),
        )

-- its entry is the one that the list has at its address and key
pub call_named : (c : Context) (word : Source) (first : ℕ) (call : Call) → Calls c word first call
    → entry_at c.list call.entry.addr call.entry.key ≡ Some call.entry
call_named c word first call k = grind (arith, listed_at, entry_at)

-- ---- steps from link to link

module _ (rom : Rom) (words : List ℕ) (list : List Entry) where
  pub step_named : (links : List Link) (from : Option ℕ) (call : Call) → IsStep rom words list links from call
      → entry_at list call.entry.addr call.entry.key ≡ Some call.entry
  step_named links from call s = grind (arith, listed_at, entry_at)

  -- with more links it is a step too
  pub step_still : (links more : List Link) (from : Option ℕ) (call : Call) → IsStep rom words list links from call
      → IsStep rom words list (links ++ more) from call
  step_still links more None call s = s
  step_still links more (Some j) call s = (s.0, at_still links more j s.0 s.1, s.2)

  pub step_within : (links : List Link) (from : Option ℕ) (call : Call) → IsStep rom words list links from call
      → IfSome from (λ j. j < length links)
  step_within links None call s = tt
  step_within links (Some j) call s = slice_get_within links j s.0 s.1
