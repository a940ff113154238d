-- The reader's answer, stated on prefixes of the text.
use Rattle.std.specs.Prelude.{◌≡◌, ◌≢◌, ℕ, ◌+◌, ◌-◌, ◌<◌, ◌≤◌, ◌⊎◌, List, [], ◌∷◌, ◌++◌, length, false, ◌==◌, Result, Ok, Err}
use Rattle.dvg_words.specs.Values.{MemoryMap, IsMap, is_asteroids}
use Rattle.dvg_cert.specs.declared.limits.TheConstants.{MOST_ENTRIES}
use Rattle.dvg_text.specs.Limits.{LONGEST_LINE, LINE_FEED}
use Rattle.dvg_cert.specs.declared.fault.CertWhy.{CertWhy}
use Rattle.dvg_cert.specs.declared.fault.CertWhy.TheVariants.{Form, Order, Count, Unended, After, TooLong, Memory}
use Rattle.dvg_cert.specs.declared.fault.CertFault.{CertFault}
use Rattle.dvg_cert.specs.declared.entry.Entry.{Entry}
use Rattle.dvg_cert.specs.Entry.{IsEntry}
use Rattle.dvg_cert.specs.Order.{Certificate, IsCertificate, StandsAfter}
use Rattle.dvg_text.specs.Grammar.{first_version_line, second_version_line, rom_line, heading, entry_line, done_line, ended, begun_with, text_of, Spells}

-- a line after the first ones: an entry, or the last one with the number of entries (profile)
pub data Line : Type 0 where
  EntryLine : Entry → Line
  DoneLine : ℕ → Line

-- the bytes are such a line for a ROM from word address `first` to `last`, without its end (profile)
abbrev pub IsLine : ℕ → ℕ → Line → List ℕ → Type 0
IsLine first last (EntryLine e) bytes = IsEntry first last e × (bytes ≡ entry_line e)
IsLine first last (DoneLine n) bytes = (n ≤ MOST_ENTRIES) × (bytes ≡ done_line n)

-- the map of a ROM other than the Asteroids one: its certificates are of version 2 (profile)
abbrev pub IsElsewhere : MemoryMap → Type 0
IsElsewhere map = IsMap map × (is_asteroids map ≡ false)

-- the lines of a prefix: none; the first one of version 2; all first lines and some entries, maybe none; or all (profile)
pub data Taken : Type 0 where
  Nothing : Taken
  Versioned : Taken
  Begun : MemoryMap → List Entry → Taken
  Whole : MemoryMap → List Entry → Taken

-- the text of these lines
abbrev pub text_taken : Taken → List ℕ
text_taken Nothing = []
text_taken Versioned = ended second_version_line
text_taken (Begun map es) = begun_with map es
text_taken (Whole map es) = text_of map es

-- the number of the line after these, counted from 1 (profile)
abbrev pub line_number : Taken → ℕ
line_number Nothing = 1
line_number Versioned = 2
line_number (Begun map es) = length (heading map) + length es + 1
line_number (Whole map es) = length (heading map) + length es + 2

-- the map and the entries of these lines are a certificate's
abbrev pub IsTaken : Taken → Type 0
IsTaken Nothing = Unit {0}
IsTaken Versioned = Unit {0}
IsTaken (Begun map es) = IsCertificate map es
IsTaken (Whole map es) = IsCertificate map es

-- the byte is none of these bytes
abbrev pub Without : ℕ → List ℕ → Type 0
Without c [] = Unit {0}
Without c (b ∷ bs) = ((b == c) ≡ false) × Without c bs

-- what may follow these lines: a begun line with room for its LF, or after the last line nothing (profile)
abbrev pub IsRest : Taken → List ℕ → Type 0
IsRest (Whole map es) rest = rest ≡ []
IsRest taken rest = Without LINE_FEED rest × (length rest < LONGEST_LINE)

-- the whole lines of the text are these, all taken, and the line begun after them is short enough (profile)
pub record Holds (text : List ℕ) (taken : Taken) (rest : List ℕ) : Type 0 where
  pub parts : text ≡ text_taken taken ++ rest
  pub lines : IsTaken taken
  pub begun : IsRest taken rest

-- all whole lines of the text can be taken, and the line begun is short enough (profile)
abbrev pub MayStand : List ℕ → Type 0
MayStand text = (taken : Taken) × (rest : List ℕ) × Holds text taken rest

-- no last line was taken
abbrev pub IsUnended : Taken → Type 0
IsUnended (Whole map es) = ⊥
IsUnended taken = Unit {0}

-- what is wrong with a line after these, once its LF has come (profile)
abbrev pub IsWrong : Taken → List ℕ → CertWhy → Type 0
IsWrong Nothing line Form = (line ≢ first_version_line) × (line ≢ second_version_line)
IsWrong Versioned line Form = (map : MemoryMap) → IsElsewhere map → line ≢ rom_line map
IsWrong (Begun map es) line Form = (l : Line) → IsLine map.rom_first map.rom_last l line → ⊥
IsWrong (Begun map es) line Order = (e : Entry) × IsLine map.rom_first map.rom_last (EntryLine e) line × (StandsAfter es e → ⊥)
IsWrong (Begun map es) line TooLong =
    (e : Entry) × IsLine map.rom_first map.rom_last (EntryLine e) line × StandsAfter es e × (length es ≡ MOST_ENTRIES)
IsWrong (Begun map es) line Count = (n : ℕ) × IsLine map.rom_first map.rom_last (DoneLine n) line × (n ≢ length es)
IsWrong taken line why = ⊥

-- why a byte is refused after these lines and this rest: it follows the last line, or it is the 200th of its line and not LF,
-- or it is the LF of a wrong line (profile)
abbrev pub Meets : Taken → List ℕ → ℕ → CertWhy → Type 0
Meets (Whole map es) rest b why = why ≡ After
Meets taken rest b why = ((b ≢ LINE_FEED) × (length rest ≡ LONGEST_LINE - 1) × (why ≡ TooLong)) ⊎ ((b ≡ LINE_FEED) × IsWrong taken rest why)

-- the line is an entry's, and it and all lines before it can be taken (profile)
abbrev pub HasEntryAt : List ℕ → ℕ → Type 0
HasEntryAt text line = (map : MemoryMap) × (es : List Entry) × (after : List ℕ) × IsCertificate map es × (0 < length es)
    × (text ≡ begun_with map es ++ after) × (line ≡ length (heading map) + length es)

-- the text ends at this line, and no last line was taken (profile)
abbrev pub EndsOpen : List ℕ → ℕ → Type 0
EndsOpen text line = (taken : Taken) × (rest : List ℕ) × Holds text taken rest × IsUnended taken × (line ≡ line_number taken)

-- the first byte that cannot come is at this line (profile)
abbrev pub StopsAt : List ℕ → ℕ → CertWhy → Type 0
StopsAt text line why =
    (prefix : List ℕ) × (b : ℕ) × (after : List ℕ) × (taken : Taken) × (rest : List ℕ) × (text ≡ prefix ++ b ∷ after)
    × Holds prefix taken rest × Meets taken rest b why × (line ≡ line_number taken)

-- a line and a reason to refuse the text: out of memory at an entry's line, the end of an open text, or the first byte
-- that cannot come (profile)
abbrev pub IsRefusal : List ℕ → ℕ → CertWhy → Type 0
IsRefusal text line Memory = HasEntryAt text line
IsRefusal text line Unended = EndsOpen text line
IsRefusal text line why = StopsAt text line why

-- the reader's answer: the certificate that is spelled, or a refusal (profile)
abbrev pub ReadAnswer : List ℕ → Result Certificate CertFault → Type 0
ReadAnswer text (Ok c) = Spells c text
ReadAnswer text (Err f) = IsRefusal text f.line f.why
