-- Which call of a shape bears out its entry's depth, and calls that do one below another.
use Rattle.dvg_survey.proofs.Common.{Holds, ◌≡◌, ℕ, suc, ◌+◌, ◌-◌, ◌<◌, ◌≤◌, List, [], ◌∷◌, ◌++◌, Some, refl, sym, ap, ◌∙◌, subst, arith, AllByRecursion, Rom, rom_word, cell_at, Entry, Item, Shape, Seen, IsClaim, IsCertificate, MemoryMap, Contains, Context, callee, scale_before, shape_context, target, listed_claim, all_append, Call, call_of, calls_among, IsShapeCall, IsNext, Comes, comes_on, append_assoc, append-nil, depth_under, named_listed}
use Rattle.dvg_survey.specs.Deepest.{BearsNot, FirstBears, GoDeepest}
use Rattle.dvg_survey.proofs.Coming.{is_among}
use Rattle.dvg_survey.proofs.Walking.{HoldsOfAll}

-- ---- one shape

module _ (rom : Rom) (list : List Entry) (e : Entry) where
  abbrev here_in : Context
  here_in = shape_context rom.machine list e

  -- no call of these items does
  abbrev pub NoneBears : List Item → Type 0
  NoneBears items = AllByRecursion (BearsNot rom list e) (calls_among here_in items)

  -- the call of the next item does
  pub first_bears : (items : List Item) (v : Seen) → IsNext here_in (rom_word rom) e.addr items v → NoneBears items → 0 < e.depth
      → (call : Call) → call.at ≡ v.item.at → v.callee ≡ Some call.entry → depth_under v.item.instr (Some call.entry) ≡ e.depth
      → FirstBears rom list e call
  first_bears items v n none some call at named depth =
      let calls : IsShapeCall rom list e call =
      record {
        earlier = items;
        item = v.item;
        leads = n.leads;
        stands = n.stands;
        at = at;
        callee_is = sym (ap (λ (x : Seen). x.callee) n.seen) ∙ named;
      } in
      (record { calls = calls; some = some; depth = depth }, none)

  -- or it does not
  pub none_on : (given : List Seen) (v : Seen) → Comes here_in NoneBears given
      → cell_at (rom_word rom) v.item.at ≡ Holds v.item.format v.item.instr
      → ((f : Entry) → v.callee ≡ Some f → depth_under v.item.instr (Some f) ≡ e.depth → ⊥) → Comes here_in NoneBears (given ++ v ∷ [])
  none_on given v none stands not =
      comes_on here_in NoneBears NoneBears given v none
      (λ items i is p. let same = ap (λ (x : Seen). x.item) is in let named = ap (λ (x : Seen). x.callee) is in
      grind (arith, same, named, p, all_append, calls_among, call_of, callee, cell_at, rom_word))

  pub none_bears : HoldsOfAll here_in (rom_word rom) e.addr NoneBears → (call : Call) → BearsNot rom list e call
  none_bears (all, are, none) call b =
      is_among here_in (rom_word rom) e.addr (BearsNot rom list e) call b.calls (calls_among here_in all) (all, are, refl) none b

-- ---- one shape below another

module _ (rom : Rom) (list : List Entry) (e : Entry) (most : ℕ) where
  -- these calls lead down from the entry to the last one, and what goes on from there goes on from the entry
  pub record Down (calls : List Call) (last : Entry) (count : ℕ) : Type 0 where
    pub claim : IsClaim last
    pub goes : (left : ℕ) (rest : List Call) → left + count ≡ most → GoDeepest left rom list last rest
        → GoDeepest most rom list e (calls ++ rest)

  pub starts_down : (map : MemoryMap) → IsCertificate map list → Contains list e → Down [] e 0
  starts_down map some listed =
      record {
        claim = listed_claim list e (map, some) listed;
        goes =
            λ left rest all g. subst (λ (n : ℕ). GoDeepest n rom list e rest) (omega (arith, all)) g;
      }

  module _ (calls : List Call) (last : Entry) (count : ℕ) (down : Down calls last count) where
    pub one_down : (map : MemoryMap) (call : Call) (new : List Call) → IsCertificate map list → FirstBears rom list last call
        → new ≡ calls ++ call ∷ [] → Down new call.entry (count + 1)
    one_down map call new some first is =
        let c = first.0.calls in
        subst (λ (cs : List Call). Down cs call.entry (count + 1)) (sym is)
        (record {
          claim = listed_claim list call.entry (map, some)
              (named_listed list (target Shape c.item.instr) (scale_before (shape_context rom.machine list last) c.earlier) call.entry
              c.callee_is);
          goes = λ left rest all g. subst (GoDeepest most rom list e) (sym (append_assoc calls (call ∷ []) rest))
              (down.goes (suc left) (call ∷ rest) (omega (arith, all)) (first, g));
        })

    pub no_further : count < most → ((call : Call) → BearsNot rom list last call) → GoDeepest most rom list e calls
    no_further lt none =
        subst (GoDeepest most rom list e) (append-nil calls) (down.goes (suc (most - suc count)) [] (omega (arith, lt)) none)

    pub no_more : most ≤ count → count ≤ most → GoDeepest most rom list e calls
    no_more ge le = subst (GoDeepest most rom list e) (append-nil calls) (down.goes 0 [] (omega (arith, ge, le)) refl)
