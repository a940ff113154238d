-- Two made lists agree at each address and key that both have.
use Rattle.dvg_make.proofs.Common.{◌≡◌, ℕ, zero, suc, ◌+◌, ◌<◌, List, [], ◌∷◌, Option, Some, refl, sym, ◌∙◌, subst, arith, Contains, cell_at, Rom, rom_word, Holds, entry_at, Entry, Key, LeadsTo, target, scale_before, Item, Shape, MadeEntry, keyed_context, listed_at}
use Rattle.dvg_make.proofs.Matching.{SameAt, Matched, gathered_same}
use Rattle.dvg_make.proofs.Ends.{callee_less, same_sums, made_ends, sums_of}

module _ (rom : Rom) (a b : List Entry) (made_a : (e : Entry) → Contains a e → MadeEntry rom a e)
    (made_b : (e : Entry) → Contains b e → MadeEntry rom b e) where
  -- the entries of both with fewer words
  abbrev Agree : ℕ → Type 0
  Agree n = (addr : ℕ) (key : Key) (e f : Entry) → entry_at a addr key ≡ Some e → entry_at b addr key ≡ Some f → e.words < n → e ≡ f

  module _ (e f : Entry) (made_e : MadeEntry rom a e) (made_f : MadeEntry rom b f) (addr : e.addr ≡ f.addr) (key : e.key ≡ f.key)
      (agree : Agree e.words) where
    same_at : (earlier : List Item) (i : Item) → LeadsTo Shape (rom_word rom) e.addr earlier i.at
        → cell_at (rom_word rom) i.at ≡ Holds i.format i.instr → Matched rom.machine a b e.key earlier → (o : Option ℕ)
        → target Shape i.instr ≡ o → SameAt a b o (scale_before (keyed_context rom.machine a e.key) earlier)
    same_at earlier i lead is m h5 t = grind (arith, rom_word, scale_before, keyed_context, gathered_same, entry_at, agree, callee_less)

    matched : (items : List Item) (p : ℕ) → LeadsTo Shape (rom_word rom) e.addr items p → Matched rom.machine a b e.key items
    matched [] p lead = tt
    matched (i ∷ earlier) p lead =
        let m = matched earlier i.at lead.0 in
        (m, same_at earlier i lead.0 lead.1 m (target Shape i.instr) refl)

    same_entry : e ≡ f
    same_entry =
        let l = made_ends rom a e made_e in
        let m = matched l.stops.items l.stops.i.at l.stops.leads in
        same_sums rom.machine a b (l.stops.i ∷ l.stops.items) e f addr key
        (m, same_at l.stops.items l.stops.i l.stops.leads l.stops.is m (target Shape l.stops.i.instr) refl) l.sums
        (sums_of rom b f made_f l.stops.items l.stops.i
        (subst (λ x. LeadsTo Shape (rom_word rom) x l.stops.items l.stops.i.at) addr l.stops.leads) l.stops.is l.stops.last)

  agree_up_to : (n : ℕ) → Agree n
  agree_up_to zero addr key e f p q lt = absurd (omega arith)
  agree_up_to (suc n) addr key e f p q lt =
      let x = listed_at a addr key e p in
      let y = listed_at b addr key f q in
      same_entry e f (made_a e x.listed) (made_b f y.listed) (x.addr_is ∙ sym y.addr_is) (x.key_is ∙ sym y.key_is)
      (λ to k g h u v less. agree_up_to n to k g h u v (omega (arith, lt, less)))

  pub agree : (addr : ℕ) (key : Key) (e f : Entry) → entry_at a addr key ≡ Some e → entry_at b addr key ≡ Some f → e ≡ f
  agree addr key e f p q = agree_up_to (e.words + 1) addr key e f p q (omega arith)

  -- the items of an entry of both find the same entries
  pub matched_made : (e : Entry) → MadeEntry rom a e → MadeEntry rom b e → (items : List Item) (p : ℕ)
      → LeadsTo Shape (rom_word rom) e.addr items p → Matched rom.machine a b e.key items
  matched_made e made_e made_f items p lead = matched e e made_e made_f refl refl (λ to k g h u v less. agree to k g h u v) items p lead
