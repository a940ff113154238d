-- What the loop over items keeps, and what follows where it goes on or ends.
use Rattle.std.specs.Prelude.{Bool, true, ◌≡◌, ℕ, List, [], ◌∷◌, Option, Some, None, unwrap_or, slice_get, refl}
use Rattle.std.proofs.Common.{inl, inr}
use Rattle.dvg_words.specs.Values.{Source}
use Rattle.dvg_words.specs.declared.instruction.Format.{Format}
use Rattle.dvg_words.specs.declared.instruction.Instr.{Instr}
use Rattle.dvg_cert.specs.Entry.{IsKey}
use Rattle.dvg_items.specs.Known.{scale_set}
use Rattle.dvg_items.proofs.Leading.{everywhere}
use Rattle.dvg_items.proofs.Listed.{listed_at}
use Rattle.dvg_make.proofs.Common.{arith, sym, ap, subst, ◌∙◌, ⊎_elim, Entry, Key, Item, LeadsTo, Holds, cell_at, target, callee_at, scale_before, known_before, known_past, next_address, entry_at, Context, AtEachOf}
use Rattle.dvg_make.proofs.Matching.{exact_named}
use Rattle.dvg_kept.specs.Private.Marks.{AllAskedMarked, Asks, IsCalledAt, IsMarked, Marks, MarksMore, MarksOne, Place, context_of}

pub more_none : (list : List Entry) (leaves : List Bool) (P : ℕ → Key → Type 0) (m : Marks) → MarksMore list leaves P m m
more_none list leaves P m = record { len = refl; kept = λ q h. h; waits = λ q c. c; others = λ q h. inl h; less = omega arith }

more_one : (list : List Entry) (leaves : List Bool) (P : ℕ → Key → Type 0) (old m new : Marks) → MarksMore list leaves P old m
    → (p : ℕ) (e : Entry) → slice_get list p ≡ Some e → entry_at list e.addr e.key ≡ Some e → P e.addr e.key
    → MarksOne (slice_get leaves e.addr ≡ Some true) p m new → MarksMore list leaves P old new
more_one list leaves P old m new more p e stands found asked one =
    record {
      len = one.len ∙ more.len;
      kept = λ q h. one.kept q (more.kept q h);
      waits = λ q c. one.waits q (more.waits q c);
      others = λ q h. ⊎_elim
          (λ s. ⊎_elim (λ t. inl t) (λ t. inr (t.0, t.1, t.2, t.3, ⊎_elim (λ w. inl (one.waits q w)) (λ l. inr l) t.4)) (more.others q s))
          (λ s. inr (e, subst (λ (x : ℕ). slice_get list x ≡ Some e) (sym s.0) stands, found, asked, s.1))
          (one.others q h);
      less = omega (arith, more.less, one.less);
    }

grown : {N : Type 0} (list : List Entry) (m new : Marks) (p : ℕ) → MarksOne N p m new → (e : Entry) → IsMarked list m e
    → IsMarked list new e
grown list m new p one e h = (h.0, one.kept h.0 h.1, h.2)

module _ (source : Source) (list : List Entry) (leaves : List Bool) (first : Place) where
  abbrev c : Context
  c = context_of source list first

  -- what an item calls is marked
  abbrev ItemMarked : Marks → List Item → Item → Type 0
  ItemMarked m earlier i =
      (to : ℕ) → target first.kind i.instr ≡ Some to → (e : Entry) × (entry_at list to (scale_before c earlier) ≡ Some e)
      × IsMarked list m e

  abbrev AllMarked : Marks → List Item → Type 0
  AllMarked m [] = Unit {0}
  AllMarked m (i ∷ earlier) = AllMarked m earlier × ItemMarked m earlier i

  all_grown : {N : Type 0} (m new : Marks) (p : ℕ) → MarksOne N p m new → (items : List Item) → AllMarked m items → AllMarked new items
  all_grown m new p one [] h = tt
  all_grown m new p one (i ∷ earlier) h =
      (all_grown m new p one earlier h.0, λ to t. let f = h.1 to t in (f.0, f.1, grown list m new p one f.0 f.2))

  -- so it is, however the cell at its place is read
  abbrev PlaceMarked : Marks → List Item → ℕ → Type 0
  PlaceMarked m earlier p =
      (f : Format) (j : Instr) → cell_at source p ≡ Holds f j → ItemMarked m earlier (record { at = p; format = f; instr = j })

  place_marked : (m : Marks) (earlier : List Item) (i : Item) → cell_at source i.at ≡ Holds i.format i.instr → ItemMarked m earlier i
      → PlaceMarked m earlier i.at
  place_marked m earlier i is h f j q =
      let same : i ≡ record { at = i.at; format = f; instr = j } = grind (arith, is, q) in subst (ItemMarked m earlier) same h

  each_marked : (m : Marks) (items : List Item) (p : ℕ) → LeadsTo first.kind source first.at items p → AllMarked m items
      → AtEachOf (PlaceMarked m) items
  each_marked m [] p lead h = tt
  each_marked m (i ∷ earlier) p lead h = (each_marked m earlier i.at lead.0 h.0, place_marked m earlier i lead.1 h.1)

  -- how the loop stands, before the item that is here
  pub record Going (old : Marks) (here : Place) (m : Marks) : Type 0 where
    pub items : List Item
    pub leads : LeadsTo first.kind source first.at items here.at
    pub kind : here.kind ≡ first.kind
    pub scale : here.scale ≡ scale_before c items
    pub key : IsKey here.scale
    pub marked : AllMarked m items
    pub more : MarksMore list leaves (Asks c source first.at) old m

  pub begins : (old : Marks) → IsKey first.scale → Going old first old
  begins old key =
      record {
        items = [];
        leads = refl;
        kind = refl;
        scale = refl;
        key = key;
        marked = tt;
        more =
            more_none list leaves (Asks c source first.at) old;
      }

  module _ (old : Marks) (here : Place) (m : Marks) (k : Going old here m) (format : Format) (instr : Instr)
      (is : cell_at source here.at ≡ Holds format instr) where
    abbrev item : Item
    item = record { at = here.at; format = format; instr = instr }

    -- past the marks of what the item calls
    record Marked (new : Marks) (called : Option Entry) : Type 0 where
      named : called ≡ callee_at list (target first.kind instr) (scale_before c k.items)
      marked : AllMarked new (item ∷ k.items)
      more : MarksMore list leaves (Asks c source first.at) old new

    marked_here : (new : Marks) (called : Option Entry) (o : Option ℕ) → target first.kind instr ≡ o
        → IsCalledAt list leaves o here.scale m new called → Marked new called
    marked_here new called None t h =
        record {
          named = h.0 ∙ ap (λ (o : Option ℕ). callee_at list o (scale_before c k.items)) (sym t);
          marked = (subst (λ (x : Marks). AllMarked x k.items) (sym h.1) k.marked, λ to q. absurd (grind (arith, t, q)));
          more = subst (λ (x : Marks). MarksMore list leaves (Asks c source first.at) old x) (sym h.1) k.more;
        }
    marked_here new called (Some to) t h =
        let e = h.0 in
        let found : entry_at list to (scale_before c k.items) ≡ Some e =
        subst (λ (x : Key). entry_at list to x ≡ Some e) k.scale h.2.found in
        let l = listed_at list to here.scale e h.2.found in
        let own : entry_at list e.addr e.key ≡ Some e =
        subst (λ (x : ℕ). entry_at list x e.key ≡ Some e) (sym l.addr_is)
        (subst (λ (x : Key). entry_at list to x ≡ Some e) (sym l.key_is) h.2.found) in
        record {
          named = h.1 ∙ sym (ap (λ (o : Option ℕ). callee_at list o (scale_before c k.items)) t
              ∙ exact_named list to (scale_before c k.items) e found);
          marked = (
            all_grown m new h.2.position h.2.one k.items k.marked,
            λ x q. let same : to ≡ x = grind (arith, t, q) in (
              e,
              subst (λ (y : ℕ). entry_at list y (scale_before c k.items) ≡ Some e) same found,
              (h.2.position, h.2.one.marked, h.2.stands),
            ),
          );
          more = more_one list leaves (Asks c source first.at) old m new k.more h.2.position e h.2.stands own
              (record {
                earlier = k.items;
                item = item;
                leads = k.leads;
                stands = is;
                target_is = t ∙ ap Some (sym l.addr_is);
                scale_is =
                    sym k.scale ∙ sym l.key_is;
              })
              (subst (λ (x : ℕ). MarksOne (slice_get leaves x ≡ Some true) h.2.position m new) (sym l.addr_is) h.2.one);
        }

    module _ (new : Marks) (called : Option Entry) (calls : IsCalledAt list leaves (target here.kind instr) here.scale m new called) where
      here_marked : Marked new called
      here_marked =
          marked_here new called (target first.kind instr) refl
          (subst (λ x. IsCalledAt list leaves (target x instr) here.scale m new called) k.kind calls)

      pub onward : (at : ℕ) → next_address here.kind item ≡ Some at → (scale : Key)
          → scale ≡ unwrap_or (scale_set instr called) here.scale → IsKey scale
          → Going old (record { kind = here.kind; at = at; scale = scale }) new
      onward at goes scale past key =
          record {
            items = item ∷ k.items;
            leads = (k.leads, is, subst (λ x. next_address x item ≡ Some at) k.kind goes);
            kind = k.kind;
            scale = grind (arith, past, here_marked.named, k.scale, known_before, known_past);
            key = key;
            marked = here_marked.marked;
            more = here_marked.more;
          }

      pub done : next_address here.kind item ≡ None → AllAskedMarked source list first new
      done last to scale a =
          let all = everywhere first.kind source first.at (PlaceMarked new) k.items item k.leads is
          (subst (λ x. next_address x item ≡ None) k.kind last)
          (each_marked new k.items here.at k.leads here_marked.marked.0, place_marked new k.items item is here_marked.marked.1) in
          let f = all a.earlier a.item.at a.leads a.item.format a.item.instr a.stands to a.target_is in
          (f.0, subst (λ (x : Key). entry_at list to x ≡ Some f.0) a.scale_is f.1, f.2)

      pub more_there : MarksMore list leaves (Asks c source first.at) old new
      more_there = here_marked.more
