-- What a refusal of the maker means. All of it is this project's own.
use Rattle.std.specs.Prelude.{◌≡◌, ℕ, ◌<◌, List, [], length, Some, IfSome, IfNone, slice_get}
use Rattle.dvg_words.specs.Memory.{Rom}
use Rattle.dvg_words.specs.Values.{Window}
use Rattle.dvg_cert.specs.Order.{IsCertificate}
use Rattle.dvg_cert.specs.declared.entry.Entry.{Entry}
use Rattle.dvg_cert.specs.declared.entry.Key.{Key}
use Rattle.dvg_check.specs.Rules.{Good, GoodFrame}
use Rattle.dvg_check.specs.declared.fault.Mode.{Mode}
pub use Rattle.dvg_make.specs.declared.fault.EntryFault.{EntryFault}
pub use Rattle.dvg_make.specs.declared.fault.EntryFault.TheVariants.{Unstraight, Deep, TooManyWords, TooManyEntries, Memory}
pub use Rattle.dvg_make.specs.declared.fault.MakeFault.{MakeFault}
pub use Rattle.dvg_make.specs.declared.fault.MakeFault.TheVariants as make
pub use Rattle.dvg_make.specs.declared.fault.FrameCall.{FrameCall}
pub use Rattle.dvg_make.specs.declared.fault.FramesFault.{FramesFault}
use Rattle.dvg_cert.specs.declared.limits.TheConstants.{MOST_ENTRIES}
use Rattle.dvg_make.specs.Made.{HasEntry, AllMade, Barred, Made}
use Rattle.dvg_make.specs.Frames.{CallAt, IsAskedFor, FramesMade}

-- the number of a refusal (profile)
abbrev pub fault_number : MakeFault → ℕ
fault_number (make.Unstraight word) = 60
fault_number make.Deep = 61
fault_number make.TooLarge = 62
fault_number make.Memory = 63

-- the refusal that tells why an entry can't be made (profile)
abbrev pub make_fault_of : EntryFault → MakeFault
make_fault_of (Unstraight word) = make.Unstraight word
make_fault_of Deep = make.Deep
make_fault_of TooManyWords = make.TooLarge
make_fault_of TooManyEntries = make.TooLarge
make_fault_of Memory = make.Memory

-- no made list exists for the ROM and the roots (profile)
abbrev pub NoneMade : Rom → List (ℕ × Key) → Type 0
NoneMade rom roots = (list : List Entry) → Made rom roots list → ⊥

-- 60, 61 and 62 say that no made list exists, 63 says nothing (profile)
abbrev pub Refuses : Rom → List (ℕ × Key) → MakeFault → Type 0
Refuses rom roots make.Memory = Unit {0}
Refuses rom roots (make.Unstraight word) = NoneMade rom roots
Refuses rom roots make.Deep = NoneMade rom roots
Refuses rom roots make.TooLarge = NoneMade rom roots

-- ---- with frames

-- no made list exists for the ROM, the roots and the frames (profile)
abbrev pub NoFramesMade : Rom → List (ℕ × Key) → List (List ℕ) → Type 0
NoFramesMade rom roots frames = (list : List Entry) → FramesMade rom roots frames list → ⊥

-- each list of made entries that has one for all that is asked for is too long for a certificate (profile)
abbrev pub AllTooLong : Rom → List (ℕ × Key) → List (List ℕ) → Type 0
AllTooLong rom roots frames =
    (list : List Entry) → AllMade rom list
    → ((addr : ℕ) (key : Key) → IsAskedFor rom.machine roots frames list addr key → HasEntry list addr key) → MOST_ENTRIES < length list

-- 60, 61 and 62 for too many words say that no made list exists, 62 for too many entries that each is too long; 63 says nothing
-- (profile)
abbrev pub BarsList : Rom → List (ℕ × Key) → List (List ℕ) → EntryFault → Type 0
BarsList rom roots frames (Unstraight word) = NoFramesMade rom roots frames
BarsList rom roots frames Deep = NoFramesMade rom roots frames
BarsList rom roots frames TooManyWords = NoFramesMade rom roots frames
BarsList rom roots frames TooManyEntries = AllTooLong rom roots frames
BarsList rom roots frames Memory = Unit {0}

-- by this certificate the frame is accepted in a window and within a budget, with these counts: the certificate's shapes are
-- good, and so is the frame (profile)
pub record Accepts (rom : Rom) (words : List ℕ) (w : Window) (mode : Mode) (list : List Entry) (budget count depth : ℕ) : Type 0 where
  pub certificate : IsCertificate rom.map list
  pub good : Good mode w rom list
  pub frame : GoodFrame w rom.machine words list budget count depth

-- no certificate gets the frame accepted, whatever the window and the budget (profile)
abbrev pub NoneAccepts : Rom → List ℕ → Type 0
NoneAccepts rom words =
    (w : Window) (mode : Mode) (list : List Entry) (budget count depth : ℕ) → Accepts rom words w mode list budget count depth → ⊥

-- what a refusal at a call says of the frame: no certificate gets it accepted. 62 for too many entries and 63 say nothing (profile)
abbrev pub BarsFrame : Rom → List ℕ → EntryFault → Type 0
BarsFrame rom words (Unstraight word) = NoneAccepts rom words
BarsFrame rom words Deep = NoneAccepts rom words
BarsFrame rom words TooManyWords = NoneAccepts rom words
BarsFrame rom words TooManyEntries = Unit {0}
BarsFrame rom words Memory = Unit {0}

-- what a refusal at a call says of the entry that the call needs: no list of made entries has it (profile)
abbrev pub BarsEntry : Rom → ℕ → Key → EntryFault → Type 0
BarsEntry rom addr key (Unstraight word) = Barred rom addr key
BarsEntry rom addr key Deep = Barred rom addr key
BarsEntry rom addr key TooManyWords = Barred rom addr key
BarsEntry rom addr key TooManyEntries = Unit {0}
BarsEntry rom addr key Memory = Unit {0}

-- by a list of made entries that has one for each call before, the item at this word of the frame calls an entry that can't be made
-- (profile)
pub record CallBarredAt (rom : Rom) (words : List ℕ) (at : ℕ) (why : EntryFault) : Type 0 where
  pub list : List Entry
  pub made : AllMade rom list
  pub to : ℕ
  pub scale : Key
  pub call : CallAt rom.machine words list at to scale
  pub barred : BarsEntry rom to scale why

-- what a refusal says of the made list, and of the frame whose call it names. If it names none, it holds of the roots alone
-- (profile)
pub record FramesRefuse (rom : Rom) (roots : List (ℕ × Key)) (frames : List (List ℕ)) (fault : FramesFault) : Type 0 where
  pub list : BarsList rom roots frames fault.why
  pub root : IfNone fault.call (BarsList rom roots [] fault.why)
  pub frame : IfSome fault.call (λ call.
      (words : List ℕ) × (slice_get frames call.frame ≡ Some words)
      × CallBarredAt rom words call.at fault.why × BarsFrame rom words fault.why)
