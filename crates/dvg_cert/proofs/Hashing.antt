-- Looking an entry up by the addresses and keys of a list, and one more of these for a rising list.
use Rattle.dvg_cert.proofs.Common.{◌≡◌, ℕ, ◌+◌, ◌<◌, Bool, false, List, [], ◌∷◌, ◌++◌, length, take, get_or, position, Some, None, is_some, refl, sym, ap, ◌∙◌, arith, list_any, position_or_len, nat_tests, ◌&&◌, nat_eq, Entry, Key, IsRising, own_keys, is_at, entry_at}
use Rattle.std.proofs.lemmas.List.{length-map, map-append, take_more}
use Rattle.std.proofs.lemmas.List.Folds.{find_at}
use Rattle.std.proofs.lemmas.Option.{gets}
use Rattle.indexmap.specs.IndexSet.{insert_key}
use Rattle.dvg_cert.proofs.OnlyEntries.{new_at}
use Rattle.dvg_cert.proofs.Pairs.{pair_test}
use Rattle.dvg_cert.specs.declared.hash_index.AddressKey.{AddressKey}
use Rattle.dvg_cert.specs.contracts.entry.KeyPartialEq.TheImpl.{ghosts}

abbrev own : Entry → AddressKey
own e = record { addr = e.addr; key = e.key }

abbrev own_eq : AddressKey → AddressKey → Bool
own_eq p q = nat_eq p.addr q.addr && ghosts.eq p.key q.key

module _ (addr : ℕ) (key : Key) where
  abbrev here : AddressKey → Bool
  here = own_eq (record { addr = addr; key = key })

  -- there is an entry just where its address and key are among them
  is_there : (es : List Entry) → is_some (entry_at es addr key) ≡ list_any here (own_keys es)
  is_there [] = refl
  is_there (e ∷ es) = grind (arith, is_there es, pair_test addr key e)

  same_place : (es : List Entry) → position_or_len here (own_keys es) ≡ position_or_len (is_at addr key) es
  same_place [] = refl
  same_place (e ∷ es) = rw (pair_test addr key e, same_place es) refl

  pub none_there : (es : List Entry) (ks : List AddressKey) → ks ≡ own_keys es → list_any here ks ≡ false → None ≡ entry_at es addr key
  none_there es ks keys h = grind (arith, (is_there es))

  -- and it stands where these stand
  pub at_index : (es : List Entry) (ks : List AddressKey) → ks ≡ own_keys es → (i : ℕ) (d : Entry) → Some i ≡ position here ks
      → Some (get_or es i d) ≡ entry_at es addr key
  at_index es ks keys i d h = grind (arith, nat_tests, length-map, (find_at (is_at addr key) es), (same_place es), gets)

pub added : (ks : List AddressKey) (es : List Entry) (i : ℕ) (d : Entry) → IsRising es → i < length es → ks ≡ own_keys (take i es)
    → insert_key own_eq ks (own (get_or es i d)) ≡ own_keys (take (i + 1) es)
added ks es i d rising lt keys =
    let e = get_or es i d in
    let new : list_any (own_eq (own e)) ks ≡ false =
    ap (list_any (own_eq (own e))) keys ∙ sym (is_there e.addr e.key (take i es)) ∙ ap is_some (new_at es i d rising lt) in
    rw new (ap (λ (l : List AddressKey). l ++ own e ∷ []) keys ∙ sym (map-append own (take i es) (e ∷ []))
    ∙ ap own_keys (sym (take_more es i d lt)))
