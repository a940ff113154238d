-- A list of entries from its entries one by one.
use Rattle.dvg_cert.proofs.Common.{nat_tests, IfSome, Key, IsClaim, IsMap, ADDRESS_END, entry_at, ◌≡◌, ℕ, zero, suc, ◌<◌, List, [], ◌∷◌, ◌++◌, length, get_or, take, drop, refl, ap, subst, arith, AllByRecursion, MemoryMap, Entry, IsEntry, IsCertificate, IsRising, StandsAfter}

-- a list within a list
pub each_mid : {X : Type 0} (P : X → Type 0) (xs : List X) (y : X) (ys : List X) → AllByRecursion P (xs ++ y ∷ ys) → P y
each_mid P [] y ys h = h.0
each_mid P (x ∷ xs) y ys h = each_mid P xs y ys h.1

pub rising_mid : (es : List Entry) (e : Entry) (gs : List Entry) → IsRising (es ++ e ∷ gs) → StandsAfter es e
rising_mid [] e gs h = tt
rising_mid (x ∷ []) e [] h = h.0
rising_mid (x ∷ []) e (g ∷ gs) h = h.0
rising_mid (x ∷ y ∷ es) e gs h = rising_mid (y ∷ es) e gs h.1

pub cut_at : (es : List Entry) (i : ℕ) (d : Entry) → i < length es → (es ≡ take i es ++ get_or es i d ∷ drop (suc i) es)
    × (take (suc i) es ≡ take i es ++ get_or es i d ∷ [])
cut_at [] i d lt = absurd (omega arith)
cut_at (x ∷ es) zero d lt = (refl, refl)
cut_at (x ∷ es) (suc i) d lt =
    let r = cut_at es i d (omega arith) in (ap (λ (t : List Entry). x ∷ t) r.0, ap (λ (t : List Entry). x ∷ t) r.1)

-- an entry of a certificate is within the limits, and stands after those before it
pub stands_there : (map : MemoryMap) (es : List Entry) (i : ℕ) (d : Entry) → IsCertificate map es → i < length es
    → IsEntry map.rom_first map.rom_last (get_or es i d) × StandsAfter (take i es) (get_or es i d)
stands_there map es i d h lt =
    let parts = (cut_at es i d lt).0 in (
      each_mid (IsEntry map.rom_first map.rom_last) _ _ _
          (subst (λ (l : List Entry). AllByRecursion (IsEntry map.rom_first map.rom_last) l) parts h.each),
      rising_mid _ _ _ (subst (λ (l : List Entry). IsRising l) parts h.rising),
    )

-- an entry for a ROM at a map is within the limits
pub entry_claim : (first last : ℕ) (e : Entry) → last < ADDRESS_END → IsEntry first last e → IsClaim e
entry_claim first last e near is =
    record {
      key = is.key;
      stop = is.stop;
      lit = is.lit;
      depth = is.depth;
      words = is.words_high;
      scale = is.scale;
      addr =
          omega (arith, is.addr_high, near);
    }

pub near_last : (map : MemoryMap) → IsMap map → map.rom_last < ADDRESS_END
near_last map is = omega (arith, is.inside)

-- an entry of a certificate is within the limits, by its index or found
pub claim_there : (map : MemoryMap) (es : List Entry) (i : ℕ) (d : Entry) → IsCertificate map es → i < length es → IsClaim (get_or es i d)
claim_there map es i d h lt = entry_claim map.rom_first map.rom_last _ (near_last map h.map_is) (stands_there map es i d h lt).0

each_claim : (first last : ℕ) (es : List Entry) (addr : ℕ) (key : Key) → last < ADDRESS_END → AllByRecursion (IsEntry first last) es
    → IfSome (entry_at es addr key) IsClaim
each_claim first last [] addr key near h = tt
each_claim first last (e ∷ es) addr key near h =
    grind (arith, nat_tests, (entry_claim first last e near h.0), (each_claim first last es addr key near h.1))

pub found_claim : (map : MemoryMap) (es : List Entry) (addr : ℕ) (key : Key) → IsCertificate map es → IfSome (entry_at es addr key) IsClaim
found_claim map es addr key h = each_claim map.rom_first map.rom_last es addr key (near_last map h.map_is) h.each
