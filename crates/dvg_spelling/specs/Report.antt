-- The report: the line that is written for a verdict. All of it is this project's own.
use Rattle.std.specs.Prelude.{◌^◌, ℕ, ◌/◌, ◌%◌, ◌==◌, nat_lt, true, List, ◌∷◌, ◌++◌, codes, decimal, Result, Ok, Err, if◌then◌else◌}
use Rattle.std.specs.Fmt.{digit_glyph}
use Rattle.dvg_words.specs.declared.image.ImageFault.TheVariants.{RomLength, FrameLength}
use Rattle.dvg_check.specs.declared.verdict.Yes.{Yes}
use Rattle.dvg_check.specs.declared.verdict.Refusal.{Refusal}
use Rattle.dvg_check.specs.declared.verdict.Refusal.TheVariants as refusal
use Rattle.dvg_check.specs.declared.fault.ShapeFault.{ShapeFault}
use Rattle.dvg_check.specs.declared.fault.FrameFault.{FrameFault}
use Rattle.dvg_check.specs.FirstFault.{shape_number, frame_number}
use Rattle.dvg_cert.specs.declared.entry.Key.{Key}
use Rattle.dvg_cert.specs.declared.fault.CertFault.{CertFault}
use Rattle.dvg_cert.specs.Numbers.{cert_number}
use Rattle.dvg_text.specs.Grammar.{address_token, key_token}
use Rattle.dvg_make.specs.declared.judging.FrameRefusal.{FrameRefusal}
use Rattle.dvg_make.specs.declared.judging.FrameRefusal.TheVariants.{Make, NoMemory, Check}
use Rattle.dvg_make.specs.declared.fault.EntryFault.{EntryFault}
use Rattle.dvg_make.specs.declared.fault.EntryFault.TheVariants as entry
use Rattle.dvg_clocks.specs.declared.clocks.ClockRange.{ClockRange}
use Rattle.dvg_spelling.specs.declared.answer.ItemPlace.{ItemPlace}
use Rattle.dvg_spelling.specs.declared.answer.ItemPlace.TheVariants as place
use Rattle.dvg_spelling.specs.declared.answer.Answer.{Answer}
use Rattle.dvg_spelling.specs.declared.answer.Answer.TheVariants.{Judged, Timed, Slow, Unread, NoMemory as Unkept}

-- a word: four hexadecimal digits in capitals
abbrev pub hex_word : ℕ → List ℕ
hex_word n = digit_glyph true (n / 16 ^ 3) ∷ address_token (n % 16 ^ 3)

-- a word address: three hexadecimal digits, or four where they are needed
abbrev pub hex_address : ℕ → List ℕ
hex_address n = if nat_lt n (16 ^ 3) then address_token n else hex_word n

-- a certificate's line, counted from 1
abbrev pub cert_fault_text : CertFault → List ℕ
cert_fault_text f = decimal (cert_number f.why) ++ codes " certificate line " ++ decimal f.line

-- an entry: its address, a slash and its key
abbrev pub entry_text : ℕ → Key → List ℕ
entry_text addr key = hex_address addr ++ codes "/" ++ key_token key

-- the entry of the shape, and the word address of the first item that breaks a rule
abbrev pub shape_fault_text : ShapeFault → List ℕ
shape_fault_text f =
    decimal (shape_number f.why) ++ codes " shape " ++ entry_text f.addr f.key ++ codes " at " ++ hex_address f.word

-- the word address of the first item that breaks a rule
abbrev pub frame_fault_text : FrameFault → List ℕ
frame_fault_text f = decimal (frame_number f.why) ++ codes " frame at " ++ hex_address f.word

-- a refusal: its number and its place
abbrev pub refusal_text : Refusal → List ℕ
refusal_text (refusal.Image RomLength) = codes "1"
refusal_text (refusal.Image FrameLength) = codes "2"
refusal_text refusal.BudgetRange = codes "49"
refusal_text (refusal.Cert f) = cert_fault_text f
refusal_text refusal.IndexMemory = codes "50"
refusal_text (refusal.Shape f) = shape_fault_text f
refusal_text (refusal.Frame f) = frame_fault_text f

-- what is accepted: how many entries, words and return places
abbrev pub accepted_text : Yes → List ℕ
accepted_text y =
    codes "accepted shapes=" ++ decimal y.shapes ++ codes " words=" ++ decimal y.words ++ codes " depth=" ++ decimal y.depth

-- the line of a verdict, without its LF
abbrev pub verdict_text : Result Yes Refusal → List ℕ
verdict_text (Ok y) = accepted_text y
verdict_text (Err r) = codes "refused " ++ refusal_text r

-- the whole line
abbrev pub report_text : Result Yes Refusal → List ℕ
report_text verdict = verdict_text verdict ++ codes "\n"

-- ---- entries that are not made

-- where an item stands: in a frame at a word address, or in a line of the recipe, counted from 1
abbrev pub place_text : ItemPlace → List ℕ
place_text (place.Frame at) = codes "frame at " ++ hex_address at
place_text (place.RecipeLine line) = codes "recipe line " ++ decimal line

-- a refusal by a number because of an item
abbrev pub refused_at_text : ℕ → ItemPlace → List ℕ
refused_at_text number at = codes "refused " ++ decimal number ++ codes " " ++ place_text at

-- whose call needs the entry
abbrev pub caller_text : ItemPlace → List ℕ
caller_text by = codes " for " ++ place_text by

-- why the entry is not made that a call needs
abbrev pub unmade_text : EntryFault → ItemPlace → List ℕ
unmade_text (entry.Unstraight word) by = codes "refused 60 at " ++ hex_address word ++ caller_text by
unmade_text entry.Deep by = codes "refused 61" ++ caller_text by
unmade_text entry.TooManyWords by = codes "refused 62" ++ caller_text by
unmade_text entry.TooManyEntries by = codes "refused 62 by entries" ++ caller_text by
unmade_text entry.Memory by = codes "out of memory"

-- ---- frames that are judged by their own certificates

-- why a frame is refused by its own certificate
abbrev pub frame_refusal_text : FrameRefusal → List ℕ
frame_refusal_text (Make at why) = unmade_text why (place.Frame at)
frame_refusal_text NoMemory = codes "out of memory"
frame_refusal_text (Check refusal.IndexMemory) = codes "out of memory"
frame_refusal_text (Check r) = codes "refused " ++ refusal_text r

-- the clocks of what is accepted: just so many, or so many at most
abbrev pub clocks_text : ClockRange → List ℕ
clocks_text c = (if c.least == c.most then codes " clocks=" else codes " clocks<=") ++ decimal c.most

-- what is said of a frame or a recipe behind its name, where `text` is what is said of a refusal
abbrev pub answer_text : {R : Type 0} → (R → List ℕ) → Answer R → List ℕ
answer_text text (Judged (Ok y)) = accepted_text y
answer_text text (Judged (Err why)) = text why
answer_text text (Timed t) = accepted_text t.yes ++ clocks_text t.clocks
answer_text text (Slow at) = refused_at_text 58 at
answer_text text Unread = codes "cannot read"
answer_text text Unkept = codes "out of memory"

-- the line from behind the name on
abbrev pub line_text : {R : Type 0} → (R → List ℕ) → Answer R → List ℕ
line_text text answer = codes ": " ++ answer_text text answer ++ codes "\n"
