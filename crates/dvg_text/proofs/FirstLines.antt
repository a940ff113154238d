-- The lines before the entries: which map they say, and that they say one.
use Rattle.dvg_text.proofs.Common.{bytes_eq-Decides, past, ◌≡◌, ◌≢◌, ℕ, ◌≤◌, true, false, List, [], ◌∷◌, ◌++◌, length, Some, None, refl, sym, ap, ◌∙◌, arith, lit<, flat_map, codes, append-nil, and_parts, nat_tests, some_pair_parts, none-some, MemoryMap, IsMap, asteroids, is_asteroids, LINE_FEED, address_token, first_version_line, second_version_line, rom_line, heading, ended, begun_with, Without, IsElsewhere, rom_at, nothing_left, append_assoc, Entry, entry_line, flat_map-append}
use Rattle.dvg_text.proofs.Leading.{Text}
use Rattle.dvg_text.proofs.Graphics.{line_free, graphic_hex}
use Rattle.dvg_text.proofs.Steps.{past_reads, address_reads, address_spelled}
use Rattle.dvg_text.proofs.FieldValues.{Says, says}

pub asteroids_is : (m : MemoryMap) → is_asteroids m ≡ true → m ≡ asteroids
asteroids_is m h = grind (arith, and_parts, asteroids, nat_tests)

-- ---- the line of a ROM

abbrev pub map_of : ℕ × ℕ → MemoryMap
map_of p = record { rom_first = p.0; rom_last = p.1 }

pub rom_reads : (bytes : Text) → Says (nothing_left (rom_at bytes)) (λ p. bytes ≡ rom_line (map_of p))
unfolding rom_at
rom_reads bytes = says (nothing_left (rom_at bytes)) (grind (arith, past_reads, address_reads, bytes_eq-Decides))

pub rom_again : (map : MemoryMap) → IsMap map → nothing_left (rom_at (rom_line map)) ≡ Some (map.rom_first, map.rom_last)
unfolding rom_at past
rom_again map is = grind (arith, address_spelled, append-nil)

-- what a line says that says where a ROM lies
pub nowhere_said : (bytes : Text) → None ≡ nothing_left (rom_at bytes) → (map : MemoryMap) → IsElsewhere map → bytes ≢ rom_line map
nowhere_said bytes e map is same =
    absurd (none-some (map.rom_first, map.rom_last) (e ∙ ap (λ (t : Text). nothing_left (rom_at t)) same ∙ rom_again map is.0))

pub other_said : (bytes : Text) (p : ℕ × ℕ) → Some p ≡ nothing_left (rom_at bytes) → (map : MemoryMap) → IsElsewhere map
    → bytes ≡ rom_line map → map ≡ map_of p
other_said bytes p e map is same = grind (arith, nothing_left, rom_at, rom_again, some_pair_parts)

-- ---- its bytes

pub version_free : Without LINE_FEED first_version_line × Without LINE_FEED second_version_line
version_free = (
  (refl, (refl, (refl, (refl, (refl, (refl, (refl, (refl, (refl, tt))))))))),
  (refl, (refl, (refl, (refl, (refl, (refl, (refl, (refl, (refl, tt))))))))),
)

pub rom_free : (map : MemoryMap) → Without LINE_FEED (rom_line map)
rom_free map =
    line_free (codes "rom" ∷ address_token map.rom_first ∷ address_token map.rom_last ∷ [])
    ((lit< tt, (lit< tt, (lit< tt, tt))), (graphic_hex map.rom_first, (graphic_hex map.rom_last, tt)))

-- ---- the text of the first lines

pub first_taken : (line : Text) → line ≡ first_version_line → begun_with asteroids [] ≡ ended line
unfolding begun_with
first_taken line l = append-nil (ended first_version_line ++ []) ∙ append-nil (ended first_version_line) ∙ ap ended (sym l)

pub rom_taken : (map : MemoryMap) (line : Text) → is_asteroids map ≡ false → line ≡ rom_line map
    → begun_with map [] ≡ ended second_version_line ++ ended line
unfolding begun_with
rom_taken map line is l = rw (l, is) (simp append-nil)

pub few_heads : (map : MemoryMap) → length (heading map) ≤ 2
few_heads map = grind (arith, is_asteroids)

-- one more line
pub begun_push : (map : MemoryMap) (es : List Entry) (e : Entry) → begun_with map (es ++ e ∷ []) ≡ begun_with map es ++ ended (entry_line e)
unfolding begun_with
begun_push map es e = grind (arith, ended, entry_line, flat_map, heading, flat_map-append, append-nil, append_assoc)
