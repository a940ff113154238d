-- The laws of texts, for every map of a ROM.
use Rattle.std.specs.Prelude.{◌≡◌, ◌≢◌, ℕ, ◌+◌, ◌*◌, ◌≤◌, ◌==◌, List, ◌++◌, length, Result, Ok, Err, count_by}
use Rattle.dvg_cert.specs.declared.limits.TheConstants.{MOST_ENTRIES}
use Rattle.dvg_text.specs.Limits.{LONGEST_LINE, LINE_FEED}
use Rattle.dvg_cert.specs.declared.fault.CertWhy.TheVariants.{Unended, Memory}
use Rattle.dvg_cert.specs.declared.fault.CertFault.{CertFault}
use Rattle.dvg_cert.specs.Order.{Certificate, IsCertificate}
use Rattle.dvg_text.specs.Grammar.{Spells}
use Rattle.dvg_text.specs.Reading.{Taken, Holds, MayStand, line_number, ReadAnswer}
use Rattle.dvg_text.specs.Stream.{Stream, Open, FeedsTo}

-- each certificate has exactly one text
abbrev pub OneText : Type 0
OneText = (c : Certificate) → IsCertificate c.map c.entries
    → (text : List ℕ) × Spells c text × ((other : List ℕ) → Spells c other → other ≡ text)

-- each text spells at most one certificate
abbrev pub OneCertificate : Type 0
OneCertificate = (c d : Certificate) (text : List ℕ) → Spells c text → Spells d text → c ≡ d

-- the answer is not that memory was short
abbrev pub NotMemory : Result Certificate CertFault → Type 0
NotMemory (Ok c) = Unit {0}
NotMemory (Err f) = f.why ≢ Memory

-- each text has exactly one answer that is not out of memory
abbrev pub OneAnswer : Type 0
OneAnswer = (text : List ℕ)
    → (answer : Result Certificate CertFault) × ReadAnswer text answer × NotMemory answer
    × ((other : Result Certificate CertFault) → ReadAnswer text other → NotMemory other → other ≡ answer)

-- what is written is read back: each answer to a certificate's text that is not out of memory is that certificate
abbrev pub ReadBack : Type 0
ReadBack = (c : Certificate) (text : List ℕ) (answer : Result Certificate CertFault)
    → Spells c text → ReadAnswer text answer → NotMemory answer → answer ≡ Ok c

-- a text whose whole lines were all taken is refused for its end alone, running out of memory aside
abbrev pub OpenAnswer : Type 0
OpenAnswer = (text : List ℕ) (f : CertFault) → MayStand text → ReadAnswer text (Err f) → f.why ≢ Memory → f.why ≡ Unended

-- a prefix of a text whose whole lines were all taken is such a text
abbrev pub OpenPrefix : Type 0
OpenPrefix = (prefix after : List ℕ) → MayStand (prefix ++ after) → MayStand prefix

-- the number of the line that a text has come to is one plus the number of its LFs
abbrev pub LineNumber : Type 0
LineNumber = (text : List ℕ) (taken : Taken) (rest : List ℕ) → Holds text taken rest
    → line_number taken ≡ count_by (λ b. b == LINE_FEED) text + 1

-- a text whose whole lines were all taken is no longer than MOST_ENTRIES + 3 of the longest lines
abbrev pub ShortText : Type 0
ShortText = (text : List ℕ) → MayStand text → length text ≤ (MOST_ENTRIES + 3) * LONGEST_LINE

-- a refusal of a prefix of a text, its end aside, is a refusal of the text
abbrev pub PrefixRefusal : Type 0
PrefixRefusal = (prefix after : List ℕ) (f : CertFault) → ReadAnswer prefix (Err f) → f.why ≢ Unended
    → ReadAnswer (prefix ++ after) (Err f)

-- the refusal of a piece is the answer to every text that goes on from it, however it is cut, running out of memory aside
abbrev pub CutRefusal : Type 0
CutRefusal = (text piece after : List ℕ) (new : Stream) (f : CertFault) (answer : Result Certificate CertFault)
    → FeedsTo (Open text) piece new (Err f) → f.why ≢ Memory → ReadAnswer ((text ++ piece) ++ after) answer
    → NotMemory answer → answer ≡ Err f
