-- What a line makes of the lines before it: the lines with it, or what is wrong.
use Rattle.dvg_text.proofs.Common.{RAM_WORDS, MEMORY_LAST, ◌≡◌, ℕ, ◌+◌, ◌⊎◌, inl, inr, Bool, List, [], ◌∷◌, ◌++◌, length, Option, Some, None, Result, Ok, Err, if◌then◌else◌, ◌&&◌, ◌==◌, not, refl, sym, arith, nat_le, nat_lt, nat_tests, bytes_eq, bytes_eq-Decides, eqb-true, length-append, MemoryMap, asteroids, is_asteroids, MOST_ENTRIES, Line, EntryLine, DoneLine, CertWhy, Form, Order, Count, After, TooLong, Entry, IsCertificate, Before, StandsAfter, first_version_line, second_version_line, rom_line, entry_line, done_line, ended, IsLine, IsElsewhere, Taken, Nothing, Versioned, Begun, Whole, text_taken, line_number, IsTaken, IsRest, IsUnended, IsWrong, rom_at, nothing_left, certificate_push, no_entry_yet, small_map, each_mid, rising_mid}
use Rattle.dvg_text.proofs.Leading.{Text}
use Rattle.dvg_text.proofs.WholeLines.{said, line_takes, line_again}
use Rattle.dvg_text.proofs.FirstLines.{map_of, rom_reads, rom_again, nowhere_said, other_said, first_taken, rom_taken, begun_push}

before_at : (lt same : Bool) (e f : Entry) → nat_lt e.addr f.addr ≡ lt → (e.addr == f.addr) ≡ same → Before e f ⊎ (Before e f → ⊥)
before_at lt same e f l s = grind (arith, nat_tests, eqb-true, nat_lt)

-- an entry stands after these, or does not
pub stands_or : (es : List Entry) (e : Entry) → StandsAfter es e ⊎ (StandsAfter es e → ⊥)
stands_or [] e = inl tt
stands_or (f ∷ []) e = before_at (nat_lt f.addr e.addr) (f.addr == e.addr) f e refl refl
stands_or (f ∷ g ∷ es) e = stands_or (g ∷ es) e

-- the lines with an entry's line, by whether the entry stands after these
abbrev with_entry : MemoryMap → (es : List Entry) → (e : Entry) → StandsAfter es e ⊎ (StandsAfter es e → ⊥) → Result Taken CertWhy
with_entry map es e (inl stands) = if nat_lt (length es) MOST_ENTRIES then Ok (Begun map (es ++ e ∷ [])) else Err TooLong
with_entry map es e (inr never) = Err Order

-- by what a later line says
abbrev with_later : MemoryMap → List Entry → Option Line → Result Taken CertWhy
with_later map es None = Err Form
with_later map es (Some (EntryLine e)) = with_entry map es e (stands_or es e)
with_later map es (Some (DoneLine n)) = if n == length es then Ok (Whole map es) else Err Count

-- by the addresses that the second line of version 2 says
abbrev with_rom : Option (ℕ × ℕ) → Result Taken CertWhy
with_rom None = Err Form
with_rom (Some p) =
    if (nat_le RAM_WORDS p.0 && (nat_le p.0 p.1 && nat_le p.1 MEMORY_LAST)) && not (is_asteroids (map_of p)) then Ok
    (Begun (map_of p) []) else Err Form

abbrev pub next : Taken → Text → Result Taken CertWhy
next Nothing line =
    if bytes_eq line first_version_line then Ok (Begun asteroids []) else
    (if bytes_eq line second_version_line then Ok Versioned else Err Form)
next Versioned line = with_rom (nothing_left (rom_at line))
next (Begun map es) line = with_later map es (said map.rom_first map.rom_last line)
next (Whole map es) line = Err After

-- what that is right about
abbrev pub IsNext : Taken → Text → Result Taken CertWhy → Type 0
IsNext t line (Ok new) = IsTaken new × IsRest new [] × (text_taken new ≡ text_taken t ++ ended line) × (line_number new ≡ line_number t + 1)
IsNext t line (Err why) = IsWrong t line why

first_is : (line : Text) → IsNext Nothing line (next Nothing line)
first_is line = grind (arith, nat_tests, bytes_eq-Decides, first_taken, no_entry_yet)

rom_is : (r : Option (ℕ × ℕ)) (line : Text) → nothing_left (rom_at line) ≡ r → IsNext Versioned line (with_rom r)
rom_is None line e = nowhere_said line (sym e)
rom_is (Some p) line e = grind (arith, nat_tests, (rom_reads line), (other_said line p (sym e)), no_entry_yet, (rom_taken (map_of p) line))

later_is : (map : MemoryMap) (es : List Entry) (line : Text) → IsCertificate map es → IsNext (Begun map es) line (next (Begun map es) line)
later_is map es line h =
    grind (
      arith,
      nat_tests,
      (line_takes map.rom_first map.rom_last line (small_map map h.map_is)),
      line_again,
      certificate_push,
      begun_push,
      length-append,
    )

pub next_is : (t : Taken) (line : Text) → IsTaken t → IsUnended t → IsNext t line (next t line)
next_is Nothing line h u = first_is line
next_is Versioned line h u = rom_is (nothing_left (rom_at line)) line refl
next_is (Begun map es) line h u = later_is map es line h
next_is (Whole map es) line h u = absurd u

-- where nothing else is said
unsaid : (map : MemoryMap) (es : List Entry) (line : Text) → IsCertificate map es
    → ((l : Line) → IsLine map.rom_first map.rom_last l line → ⊥) → next (Begun map es) line ≡ Err Form
unsaid map es line h never = grind (arith, (line_takes map.rom_first map.rom_last line (small_map map h.map_is)))

-- what is wrong with a line is one thing
pub wrong_next : (why : CertWhy) (t : Taken) (line : Text) → IsTaken t → IsWrong t line why → next t line ≡ Err why
wrong_next Form Nothing line h w =
    grind (arith, nat_tests, (bytes_eq-Decides line first_version_line), (bytes_eq-Decides line second_version_line))
wrong_next Form Versioned line h w = rom_wrong (nothing_left (rom_at line)) refl
  where
    rom_wrong : (r : Option (ℕ × ℕ)) → nothing_left (rom_at line) ≡ r → with_rom r ≡ Err Form
    rom_wrong None e = refl
    rom_wrong (Some p) e = grind (arith, nat_tests, (rom_reads line), (w (map_of p)))
wrong_next Form (Begun map es) line h w = unsaid map es line h w
wrong_next Order (Begun map es) line h w =
    grind (arith, (line_again map.rom_first map.rom_last line (EntryLine w.0) (small_map map h.map_is) w.1))
wrong_next TooLong (Begun map es) line h w =
    grind (arith, (line_again map.rom_first map.rom_last line (EntryLine w.0) (small_map map h.map_is) w.1))
wrong_next Count (Begun map es) line h w =
    grind (arith, (line_again map.rom_first map.rom_last line (DoneLine w.0) (small_map map h.map_is) w.1))
wrong_next why t line h w = absurd (grind (arith))

-- a line that is a certificate's
pub rom_next : (map : MemoryMap) → IsElsewhere map → next Versioned (rom_line map) ≡ Ok (Begun map [])
rom_next map is = rw (rom_again map is.0) (grind (arith, nat_tests))

pub entry_next : (map : MemoryMap) (es fs : List Entry) (e : Entry) → IsCertificate map (es ++ e ∷ fs)
    → next (Begun map es) (entry_line e) ≡ Ok (Begun map (es ++ e ∷ []))
entry_next map es fs e h =
    let fits = each_mid _ es e fs h.each in
    rw (line_again map.rom_first map.rom_last (entry_line e) (EntryLine e) (small_map map h.map_is) (fits, refl))
    (grind (arith, nat_tests, (rising_mid es e fs h.rising), (length-append es (e ∷ fs)), (h.few)))

pub done_next : (map : MemoryMap) (es : List Entry) → IsCertificate map es → next (Begun map es) (done_line (length es)) ≡ Ok (Whole map es)
done_next map es h =
    rw (line_again map.rom_first map.rom_last (done_line (length es)) (DoneLine (length es)) (small_map map h.map_is) (h.few, refl))
    (grind (arith, nat_tests))
