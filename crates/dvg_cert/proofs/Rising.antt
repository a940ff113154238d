-- Lists of entries that rise, and one more at the end.
use Rattle.dvg_cert.proofs.Common.{◌≡◌, ℕ, suc, ◌-◌, ◌<◌, List, [], ◌∷◌, ◌++◌, length, Some, ap, ◌∙◌, arith, slice_get, AllByRecursion, length_push, MemoryMap, IsMap, MOST_ENTRIES, ADDRESS_END, Entry, IsEntry, Before, StandsAfter, IsRising, IsCertificate}

pub stands : (es : List Entry) (f e : Entry) → slice_get es (length es - 1) ≡ Some f
    → ((Before f e → StandsAfter es e) × (StandsAfter es e → Before f e))
stands [] f e h = absurd cc
stands (x ∷ []) f e h = grind (arith)
stands (x ∷ y ∷ es) f e h =
    let k : suc (length (y ∷ es) - 1) ≡ length (x ∷ y ∷ es) - 1 = omega arith in
    stands (y ∷ es) f e (ap (slice_get (x ∷ y ∷ es)) k ∙ h)

rising_push : (es : List Entry) (e : Entry) → IsRising es → StandsAfter es e → IsRising (es ++ e ∷ [])
rising_push [] e h s = tt
rising_push (x ∷ []) e h s = (s, tt)
rising_push (x ∷ y ∷ es) e h s = (h.0, rising_push (y ∷ es) e h.1 s)

each_push : (first last : ℕ) (es : List Entry) (e : Entry) → AllByRecursion (IsEntry first last) es → IsEntry first last e
    → AllByRecursion (IsEntry first last) (es ++ e ∷ [])
each_push first last [] e h s = (s, tt)
each_push first last (x ∷ es) e h s = (h.0, each_push first last es e h.1 s)

pub certificate_push : (map : MemoryMap) (es : List Entry) (e : Entry) → IsCertificate map es → IsEntry map.rom_first map.rom_last e
    → StandsAfter es e → length es < MOST_ENTRIES → IsCertificate map (es ++ e ∷ [])
certificate_push map es e h fits s room =
    record {
      map_is = h.map_is;
      each = each_push map.rom_first map.rom_last es e h.each fits;
      rising = rising_push es e h.rising s;
      few =
          omega (arith, length_push es e);
    }

-- no entry so far
pub no_entry_yet : (map : MemoryMap) → IsMap map → IsCertificate map []
no_entry_yet map is = record { map_is = is; each = tt; rising = tt; few = omega arith }

-- the addresses of a map have three digits
pub small_map : (map : MemoryMap) → IsMap map → map.rom_last < ADDRESS_END
small_map map is = omega (arith, is.inside)
