-- Sets of word addresses with a key, as marks at their numbers.
use Rattle.std.specs.Prelude.{◌≡◌, ◌+◌, ◌*◌, ℕ, List, Bool, true, false, get_or, set}
use Rattle.dvg_cert.specs.Entry.{IsKey}
use Rattle.dvg_cert.specs.declared.entry.Key.{Key}
use Rattle.dvg_check.specs.Passing.{key_number}
pub use Rattle.dvg_survey.specs.declared.keyed_words.TheConstants.{MOST_KEYED_WORDS}

-- a word address, and the known scale there, or the key of an entry
abbrev pub KeyedWord : Type 0
KeyedWord = ℕ × Key

-- the number of a word address with a key
abbrev pub word_number : KeyedWord → ℕ
word_number word = word.0 * 17 + key_number word.1

-- whether a word address with a key is marked
abbrev pub is_marked : List Bool → KeyedWord → Bool
is_marked marks word = get_or marks (word_number word) false

-- none is marked
abbrev pub AreNone : List Bool → Type 0
AreNone marks = (word : KeyedWord) → is_marked marks word ≡ false

-- the marks with one more
abbrev pub with_word : List Bool → KeyedWord → List Bool
with_word marks word = set marks (word_number word) true

-- a word address with a key is marked
abbrev pub HasWord : List Bool → KeyedWord → Type 0
HasWord marks word = IsKey word.1 × (is_marked marks word ≡ true)
