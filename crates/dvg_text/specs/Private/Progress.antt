-- The running state of the reader. No rule stands here.
use Rattle.std.specs.Prelude.{◌≡◌, ◌≢◌, ℕ, ◌+◌, ◌<◌, ◌≤◌, List, [], ◌∷◌, ◌++◌, length, take, drop, Result, Ok, Err, Option, Some, None}
use Rattle.dvg_words.specs.Values.{MemoryMap, asteroids}
use Rattle.dvg_cert.specs.declared.limits.TheConstants.{MOST_ENTRIES}
use Rattle.dvg_text.specs.Limits.{LINE_FEED}
use Rattle.dvg_text.specs.Reading.{EntryLine, Taken, Nothing, Versioned, Begun, Whole, text_taken, line_number, HasEntryAt, IsTaken, Without, IsRest, Holds, IsWrong, IsLine, IsRefusal}
use Rattle.dvg_cert.specs.declared.fault.CertWhy.{CertWhy}
use Rattle.dvg_cert.specs.declared.fault.CertWhy.TheVariants.{Form, Order, Unended, TooLong, Memory}
use Rattle.dvg_cert.specs.declared.fault.CertFault.{CertFault}
use Rattle.dvg_text.specs.declared.taken.Stage.{Stage}
use Rattle.dvg_text.specs.declared.taken.Stage.TheVariants.{First, Rom, Later, Ended}
use Rattle.dvg_cert.specs.declared.entry.Entry.{Entry}
use Rattle.dvg_cert.specs.Order.{IsCertificate, StandsAfter}
use Rattle.dvg_text.specs.Grammar.{first_version_line, second_version_line, ended, begun_with, text_of}
use Rattle.dvg_text.specs.Stream.{Stream, Open, Refused}

-- the lines that were taken, by the stage, the map and the entries
abbrev pub taken_of : MemoryMap → List Entry → Stage → Taken
taken_of map es First = Nothing
taken_of map es Rom = Versioned
taken_of map es Later = Begun map es
taken_of map es Ended = Whole map es

-- what is known of the map and the entries; until a line says where the ROM lies, it is the Asteroids map
abbrev pub IsStaged : MemoryMap → List Entry → Stage → Type 0
IsStaged map es First = (es ≡ []) × (map ≡ asteroids)
IsStaged map es Rom = es ≡ []
IsStaged map es Later = IsCertificate map es
IsStaged map es Ended = IsCertificate map es

-- the stream, by the stored refusal, the lines that were taken and the line begun
abbrev pub stream_of : Option CertFault → Taken → List ℕ → Stream
stream_of None taken rest = Open (text_taken taken ++ rest)
stream_of (Some f) taken rest = Refused f

-- the lines taken and the line begun are those of a text that was not refused
abbrev pub IsProgress : Option CertFault → Taken → List ℕ → Type 0
IsProgress None taken rest = IsTaken taken × IsRest taken rest
IsProgress (Some f) taken rest = Unit {0}

-- why a whole line after these is refused, out of memory included
abbrev pub IsLineRefused : Taken → List ℕ → CertWhy → Type 0
IsLineRefused (Begun map es) line Memory =
    (e : Entry) × IsLine map.rom_first map.rom_last (EntryLine e) line × IsCertificate map (es ++ e ∷ [])
IsLineRefused taken line why = IsWrong taken line why

-- what taking an entry gives
abbrev pub TakesEntry : MemoryMap → List Entry → Entry → List Entry → Result (Unit {0}) CertWhy → Type 0
TakesEntry map old e new (Ok u) = (new ≡ old ++ e ∷ []) × IsCertificate map new
TakesEntry map old e new (Err Order) = (new ≡ old) × (StandsAfter old e → ⊥)
TakesEntry map old e new (Err TooLong) = (new ≡ old) × StandsAfter old e × (length old ≡ MOST_ENTRIES)
TakesEntry map old e new (Err Memory) = (new ≡ old) × IsCertificate map (old ++ e ∷ [])
TakesEntry map old e new (Err why) = ⊥

-- what comes after the first line
abbrev pub StartsWith : List ℕ → Result Stage CertWhy → Type 0
StartsWith line (Ok Rom) = line ≡ second_version_line
StartsWith line (Ok Later) = line ≡ first_version_line
StartsWith line (Ok stage) = ⊥
StartsWith line (Err why) = (why ≡ Form) × (line ≢ first_version_line) × (line ≢ second_version_line)

-- what taking a line gives
abbrev pub TakesLine : Taken → List ℕ → Taken → Result (Unit {0}) CertWhy → Type 0
TakesLine old line new (Ok u) = IsTaken new × (text_taken new ≡ text_taken old ++ ended line)
TakesLine old line new (Err why) = IsLineRefused old line why

-- what taking a line after the first ones gives
abbrev pub TakesLater : MemoryMap → List Entry → List ℕ → List Entry → Result Stage CertWhy → Type 0
TakesLater map old line new (Ok Later) = IsCertificate map new × (begun_with map new ≡ begun_with map old ++ ended line)
TakesLater map old line new (Ok Ended) = IsCertificate map new × (text_of map new ≡ begun_with map old ++ ended line)
TakesLater map old line new (Ok stage) = ⊥
TakesLater map old line new (Err why) = IsCertificate map new × IsLineRefused (Begun map old) line why

-- the bytes begin with whole lines of entries: what taking these entries gives; `bytes` reads the bytes that are left
abbrev pub TakesFirst : {X : Type 0} → (X → List ℕ) → Taken → List ℕ → Taken → Result X CertWhy → Type 0
TakesFirst bytes old rest new (Ok after) =
    IsTaken new × (text_taken old ++ rest ≡ text_taken new ++ bytes after) × (length (bytes after) ≤ length rest)
TakesFirst bytes old rest new (Err why) = (why ≡ Memory) × HasEntryAt (text_taken old ++ rest) (line_number new)

-- the same for a piece after a begun line: nothing is taken unless that line is empty
abbrev pub TakesEntries : {X : Type 0} → (X → List ℕ) → Taken → List ℕ → List ℕ → Taken → Result X CertFault → Type 0
TakesEntries bytes old begun rest new (Ok after) =
    (text_taken old ++ (begun ++ rest) ≡ text_taken new ++ (begun ++ bytes after)) × IsTaken new × IsRest new begun
    × (length (bytes after) ≤ length rest)
TakesEntries bytes old begun rest new (Err f) = IsRefusal (text_taken old ++ (begun ++ rest)) f.line f.why × (f.why ≢ Unended)

-- the position at which the next line ends; a line has fewer than `room` bytes
abbrev pub EndsLine : ℕ → List ℕ → Result (Option ℕ) CertWhy → Type 0
EndsLine room rest (Ok (Some at)) =
    (rest ≡ take at rest ++ LINE_FEED ∷ drop (at + 1) rest) × Without LINE_FEED (take at rest) × (at < room) × (at < length rest)
EndsLine room rest (Ok None) = Without LINE_FEED rest × (length rest < room)
EndsLine room rest (Err why) = (why ≡ TooLong) × (room ≤ length rest) × Without LINE_FEED (take room rest)

-- what taking the next line of a piece gives; `bytes` reads the bytes that are left
abbrev pub TakesNext : {X : Type 0} → (X → List ℕ) → Taken → List ℕ → List ℕ → Taken → List ℕ → Result (Option X) CertFault → Type 0
TakesNext bytes taken begun rest taken' begun' (Ok None) = Holds (text_taken taken ++ (begun ++ rest)) taken' begun'
TakesNext bytes taken begun rest taken' begun' (Ok (Some after)) =
    (text_taken taken ++ (begun ++ rest) ≡ text_taken taken' ++ bytes after) × IsTaken taken' × (begun' ≡ [])
    × (length (bytes after) < length rest)
TakesNext bytes taken begun rest taken' begun' (Err f) = IsRefusal (text_taken taken ++ (begun ++ rest)) f.line f.why × (f.why ≢ Unended)

-- what taking a piece gives
abbrev pub TakesPiece : Taken → List ℕ → List ℕ → Taken → List ℕ → Result (Unit {0}) CertFault → Type 0
TakesPiece taken begun piece taken' begun' (Ok u) = Holds ((text_taken taken ++ begun) ++ piece) taken' begun'
TakesPiece taken begun piece taken' begun' (Err f) = IsRefusal ((text_taken taken ++ begun) ++ piece) f.line f.why × (f.why ≢ Unended)
