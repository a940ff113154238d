-- How the fields of a line are read from left to right. No rule stands here.
use Rattle.std.specs.Prelude.{◌≡◌, ℕ, ◌+◌, ◌-◌, ◌*◌, ◌^◌, ◌<◌, ◌≤◌, List, [], ◌∷◌, ◌++◌, codes, decimal, ℤ, pos, neg_ℤ, ◌&&◌, nat_le, nat_lt, int_le, ◌==◌, if◌then◌else◌, Option, Some, None}
use Rattle.std.specs.Str.{bytes_eq}
use Rattle.std.specs.Char.{digit_value}
use Rattle.std.specs.Str.Parse.{digits_value}
use Rattle.std.specs.Option.{option_map, option_map_or, option_and_then}
use Rattle.dvg_words.specs.declared.map.TheConstants.{ADDRESS_END}
use Rattle.dvg_cert.specs.declared.limits.TheConstants.{MOST_ENTRIES, MOST_DEPTH, MOST_WORDS}
use Rattle.dvg_text.specs.Limits.{MOST_MAGNITUDE}
use Rattle.dvg_cert.specs.declared.entry.Key.{Key}
use Rattle.dvg_cert.specs.declared.entry.Key.TheVariants.{At, Any}
use Rattle.dvg_cert.specs.declared.entry.End.{End}
use Rattle.dvg_cert.specs.declared.entry.End.TheVariants.{Rel, Abs, Lost}
use Rattle.dvg_cert.specs.declared.entry.LitBox.{LitBox}
use Rattle.dvg_cert.specs.declared.entry.LitBox.TheVariants.{Empty, Span}
use Rattle.dvg_cert.specs.declared.entry.Entry.{Entry}

-- what is read after what was read
infixl 10 ◌>>=◌
abbrev pub ◌>>=◌ : {A B : Type 0} → Option A → (A → Option B) → Option B
o >>= f = option_and_then f o

-- reading gives this result and leaves these bytes
abbrev pub Reads : {X : Type 0} → Option X → List ℕ → Option (X × List ℕ) → Type 0
Reads None rest read = read ≡ None
Reads (Some x) rest read = read ≡ Some (x, rest)

-- the number from low to high whose decimal spelling the bytes are
unfoldable pub natural_in : ℕ → ℕ → List ℕ → Option ℕ
natural_in low high bytes =
    let n = digits_value 10 bytes in if bytes_eq (decimal n) bytes && (nat_le low n && nat_le n high) then Some n else None

-- the value of a capital hexadecimal digit, or 16
abbrev pub hex_value : ℕ → ℕ
hex_value c =
    if nat_lt c 48 then 16 else (if nat_lt c 58 then c - 48 else (if nat_lt c 65 then 16 else (if nat_lt c 71 then c - 55 else 16)))

-- three capital hexadecimal digits as an address within these
unfoldable pub address_in : ℕ → ℕ → List ℕ → Option ℕ
address_in first last (a ∷ b ∷ c ∷ []) = let n = hex_value a * 256 + hex_value b * 16 + hex_value c in
    if (nat_lt (hex_value a) 16 && (nat_lt (hex_value b) 16 && nat_lt (hex_value c) 16)) && (nat_le first n && nat_le n last)
    then Some n else None
address_in first last bytes = None

-- no digit comes first
abbrev pub NoDigitFirst : List ℕ → Type 0
NoDigitFirst [] = Unit {0}
NoDigitFirst (c ∷ cs) = digit_value c < 10 → ⊥

-- a number of at most 13 digits that the bytes begin with, and the bytes after its digits; `see` sees those as bytes
abbrev pub LeadsWith : {X : Type 0} → (X → List ℕ) → List ℕ → Option (ℕ × X) → Type 0
LeadsWith see bytes (Some p) = (bytes ≡ decimal p.0 ++ see p.1) × (p.0 < 10 ^ 13) × NoDigitFirst (see p.1)
LeadsWith see bytes None = (n : ℕ) → (rest : List ℕ) → n ≤ MOST_MAGNITUDE → NoDigitFirst rest → bytes ≡ decimal n ++ rest → ⊥

-- what follows a text, where the bytes begin with it
unfoldable pub past : List ℕ → List ℕ → Option (List ℕ)
past [] bytes = Some bytes
past (t ∷ text) [] = None
past (t ∷ text) (b ∷ bytes) = if b == t then past text bytes else None

-- the digits that the bytes begin with, and what follows them
unfoldable pub digits_off : List ℕ → List ℕ × List ℕ
digits_off [] = ([], [])
digits_off (c ∷ cs) = if nat_lt (digit_value c) 10 then (c ∷ (digits_off cs).0, (digits_off cs).1) else ([], c ∷ cs)

-- the number from low to high that these digits spell
unfoldable pub natural_at : ℕ → ℕ → List ℕ → Option (ℕ × List ℕ)
natural_at low high bytes = option_map (λ n. (n, (digits_off bytes).1)) (natural_in low high (digits_off bytes).0)

-- one digit, 0 to most
unfoldable pub digit_at : ℕ → List ℕ → Option (ℕ × List ℕ)
digit_at most [] = None
digit_at most (c ∷ cs) = if nat_le 48 c && nat_le c (48 + most) then Some (c - 48, cs) else None

-- an address at the start, and what follows it
unfoldable pub address_at : ℕ → ℕ → List ℕ → Option (ℕ × List ℕ)
address_at first last (a ∷ b ∷ c ∷ bytes) = option_map (λ n. (n, bytes)) (address_in first last (a ∷ b ∷ c ∷ []))
address_at first last bytes = None

-- a scale of one digit or two, or any
unfoldable pub key_at : List ℕ → Option (Key × List ℕ)
key_at bytes =
    option_map_or
    (λ d. if d.0 == 1 then option_map_or (λ u. Some (At (10 + u.0), u.1)) (digit_at 5 d.1) (Some (At 1, d.1)) else Some (At d.0, d.1))
    (digit_at 9 bytes)
    (option_map (λ rest. (Any, rest)) (past (codes "any") bytes))

-- 0, or a number on either side of it
unfoldable pub number_at : List ℕ → Option (ℤ × List ℕ)
number_at bytes = option_map_or (λ rest. Some (pos 0, rest)) (past (codes "0") bytes)
    (option_map_or (λ digits. option_map (λ n. (neg_ℤ (pos n.0), n.1)) (natural_at 1 MOST_MAGNITUDE digits)) (past (codes "-") bytes)
    (option_map (λ n. (pos n.0, n.1)) (natural_at 1 MOST_MAGNITUDE bytes)))

-- two numbers with a space between
unfoldable pub two_at : List ℕ → Option ((ℤ × ℤ) × List ℕ)
two_at bytes = do
  x ← number_at bytes
  s ← past (codes " ") x.1
  y ← number_at s
  Some ((x.0, y.0), y.1)

-- an end at the start, and what follows it
unfoldable pub end_at : List ℕ → Option (End × List ℕ)
end_at bytes = option_map_or (λ rest. option_map (λ p. (Rel p.0.0 p.0.1, p.1)) (two_at rest)) (past (codes "rel ") bytes)
    (option_map_or (λ rest. option_map (λ p. (Abs p.0.0 p.0.1, p.1)) (two_at rest)) (past (codes "abs ") bytes)
    (option_map (λ rest. (Lost, rest)) (past (codes "lost") bytes)))

-- a box of four numbers
unfoldable pub span_at : List ℕ → Option (LitBox × List ℕ)
span_at bytes = do
  x ← two_at bytes
  s ← past (codes " ") x.1
  y ← two_at s
  if int_le x.0.0 x.0.1 && int_le y.0.0 y.0.1 then Some (Span x.0.0 x.0.1 y.0.0 y.0.1, y.1) else None

-- a box at the start, and what follows it
unfoldable pub box_at : List ℕ → Option (LitBox × List ℕ)
box_at bytes = option_map_or (λ rest. Some (Empty, rest)) (past (codes "none") bytes) (span_at bytes)

-- an entry of a ROM from word address first to last
unfoldable pub entry_at : ℕ → ℕ → List ℕ → Option (Entry × List ℕ)
entry_at first last bytes = do
  s1 ← past (codes "shape ") bytes
  addr ← address_at first last s1
  s2 ← past (codes " ") addr.1
  key ← key_at s2
  s3 ← past (codes " end ") key.1
  stop ← end_at s3
  s4 ← past (codes " box ") stop.1
  lit ← box_at s4
  s5 ← past (codes " depth ") lit.1
  depth ← digit_at MOST_DEPTH s5
  s6 ← past (codes " words ") depth.1
  count ← natural_at 1 MOST_WORDS s6
  s7 ← past (codes " scale ") count.1
  scale ← key_at s7
  Some (record { addr = addr.0; key = key.0; stop = stop.0; lit = lit.0; depth = depth.0; words = count.0; scale = scale.0 }, scale.1)

-- the first and the last word address of a ROM
unfoldable pub rom_at : List ℕ → Option ((ℕ × ℕ) × List ℕ)
rom_at bytes = do
  s1 ← past (codes "rom ") bytes
  first ← address_at 0 (ADDRESS_END - 1) s1
  s2 ← past (codes " ") first.1
  last ← address_at 0 (ADDRESS_END - 1) s2
  Some ((first.0, last.0), last.1)

-- the number of entries of a last line, and what follows it
unfoldable pub done_at : List ℕ → Option (ℕ × List ℕ)
done_at bytes = do
  s ← past (codes "done ") bytes
  natural_at 0 MOST_ENTRIES s

-- the value, where nothing follows it
abbrev pub nothing_left : {X : Type 0} → Option (X × List ℕ) → Option X
nothing_left o = o >>= λ x. if bytes_eq x.1 [] then Some x.0 else None
