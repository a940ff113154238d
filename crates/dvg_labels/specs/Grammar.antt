-- What a line of a label file tells. The forms are those of the files that ld65 and VICE, ACME, DASM and vasm write (docs/LABELS.md);
-- what is taken of them is this project's own.
use Rattle.std.specs.Prelude.{ℕ, ◌+◌, ◌*◌, Bool, false, ◌&&◌, ◌||◌, ◌==◌, nat_le, nat_lt, if◌then◌else◌, min, List, [], ◌∷◌, length, drop, slice_index, codes, Option, Some, None, Result, Ok, Err}
use Rattle.std.specs.List.{list_all}
use Rattle.std.specs.Str.{bytes_eq}
use Rattle.std.specs.Char.{digit_value}
use Rattle.dvg_labels.specs.Limits.{LONGEST_NAME}
use Rattle.dvg_labels.specs.Cutting.{words, first_of}
use Rattle.std.specs.Borrow.{Bor}
use Rattle.dvg_labels.specs.declared.fault.LabelFault.{LabelFault}

-- what a line tells: nothing; a label and its value, if it has one; or it is of none of the forms
pub data Meaning : Type 0 where
  Nothing : Meaning
  Label : List ℕ → Option ℕ → Meaning
  Wrong : Meaning

-- what a label is told as: a line of one of the forms tells one
abbrev pub label_meaning : Option (Bor (List ℕ) × Option ℕ) → Meaning
label_meaning None = Wrong
label_meaning (Some label) = Label label.0.now label.1

-- what is told of a line, as its meaning
abbrev pub meaning_of : Result (Option (Bor (List ℕ) × Option ℕ)) LabelFault → Meaning
meaning_of (Ok None) = Nothing
meaning_of (Ok label) = label_meaning label
meaning_of (Err fault) = Wrong

-- no value is greater than this one, which no address is
abbrev pub MOST_VALUE : ℕ
MOST_VALUE = 65536

-- the number that hexadecimal digits, small or capital, spell behind a number; one over FFFF counts as 10000
unfoldable pub number_behind : ℕ → List ℕ → Option ℕ
number_behind n [] = Some n
number_behind n (c ∷ cs) = if nat_lt (digit_value c) 16 then number_behind (min MOST_VALUE (n * 16 + digit_value c)) cs else None

-- the number that one hexadecimal digit or more spell
abbrev pub number : List ℕ → Option ℕ
number [] = None
number (c ∷ cs) = number_behind 0 (c ∷ cs)

-- each byte is a graphic ASCII character
abbrev pub are_graphic : List ℕ → Bool
are_graphic bytes = list_all (λ b. nat_le 33 b && nat_le b 126) bytes

-- the name of a label: 1 to 80 graphic ASCII characters
abbrev pub is_name : List ℕ → Bool
is_name name = nat_lt 0 (length name) && (nat_le (length name) LONGEST_NAME && are_graphic name)

-- the word begins with this byte
abbrev pub begins : ℕ → List ℕ → Bool
begins b [] = false
begins b (c ∷ cs) = c == b

-- a word without the memory space or the section before its colon, of one character or two
abbrev pub untagged : List ℕ → List ℕ
untagged word = if slice_index word 1 == 58 then drop 2 word else (if slice_index word 2 == 58 then drop 3 word else word)

-- the words of a line without the `!addr` that ACME may put first
abbrev pub statement : List (List ℕ) → List (List ℕ)
statement ws = if bytes_eq (first_of ws) (codes "!addr") then drop 1 ws else ws

-- a label, if its name is one and its value a number
abbrev pub with_value : List ℕ → Option ℕ → Meaning
with_value name None = Wrong
with_value name (Some n) = if is_name name then Label name (Some n) else Wrong

-- a label with the number that these digits spell
abbrev pub valued : List ℕ → List ℕ → Meaning
valued name digits = with_value name (number digits)

-- a label without a value that is an address
abbrev pub valueless : List ℕ → Meaning
valueless name = if is_name name then Label name None else Wrong

-- `al C:080E .SHIP`, with or without a memory space (VICE, ld65, ACME)
abbrev pub vice : List ℕ → List ℕ → List ℕ → Meaning
vice value name behind = if bytes_eq behind [] then valued (drop 1 name) (untagged value) else Wrong

-- `SHIP = $100A ; unused`; another value than a hexadecimal one is no address (ACME)
abbrev pub acme : List ℕ → List ℕ → List ℕ → Meaning
acme name value behind = if bytes_eq behind [] || begins 59 behind
    then (if begins 36 value then valued name (drop 1 value) else (if bytes_eq value [] then Wrong else valueless name)) else Wrong

-- what stands behind a value of DASM, or nothing: `(R )`, `str`, `eqm`
abbrev pub is_flag : List ℕ → Bool
is_flag word = bytes_eq word [] || (begins 40 word || (bytes_eq word (codes "str") || bytes_eq word (codes "eqm")))

-- `SHIP 1032 (R )`, whose value may be unknown (DASM); `SHIP A:1032`, with its section (vasm)
abbrev pub row : List ℕ → List ℕ → List ℕ → Meaning
row name value behind = if is_flag behind
    then (if bytes_eq value (codes "????") then valueless name else valued name (untagged value)) else Wrong

-- the line is empty, a remark behind `;`, or a heading: `--- Symbol List` (DASM), `Symbols by name:` (vasm)
abbrev pub tells_nothing : List ℕ → Bool
tells_nothing first = bytes_eq first [] || (begins 59 first || (bytes_eq first (codes "---") || bytes_eq first (codes "Symbols")))

-- what the four words of a line tell
abbrev pub meaning : List ℕ → List ℕ → List ℕ → List ℕ → Meaning
meaning first second third fourth = if tells_nothing first then Nothing
    else (if bytes_eq first (codes "al") && begins 46 third then vice second third fourth
    else (if bytes_eq second (codes "=") then acme first third fourth else row first second third))

-- what a line tells
abbrev pub line_meaning : List ℕ → Meaning
line_meaning line = let ws = statement (words line) in
    meaning (first_of ws) (first_of (drop 1 ws)) (first_of (drop 1 (drop 1 ws))) (first_of (drop 1 (drop 1 (drop 1 ws))))
