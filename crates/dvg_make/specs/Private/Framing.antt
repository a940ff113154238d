-- A frame whose calls are made one after another.
use Rattle.dvg_words.specs.declared.machine.Machine.{Machine}
use Rattle.std.specs.Prelude.{◌≡◌, ℕ, ◌+◌, ◌<◌, ◌≤◌, ◌++◌, ◌⊎◌, List, [], length, Option, Some, None, Contains}
use Rattle.dvg_words.specs.Memory.{Rom}
use Rattle.dvg_words.specs.Values.{MemoryMap}
use Rattle.dvg_words.specs.declared.instruction.Instr.{Instr}
use Rattle.dvg_cert.specs.Lookup.{entry_at}
use Rattle.dvg_cert.specs.declared.limits.TheConstants.{MOST_ENTRIES}
use Rattle.dvg_cert.specs.declared.entry.Entry.{Entry}
use Rattle.dvg_cert.specs.declared.entry.Key.{Key}
use Rattle.dvg_items.specs.declared.item.Kind.TheVariants.{Frame}
use Rattle.dvg_items.specs.Known.{target}
use Rattle.dvg_make.specs.Made.{HasEntry, AllMade}
use Rattle.dvg_make.specs.Frames.{AllKeyed, CallAt, FrameAsksFor, IsAskedFor, FramesMade}
use Rattle.dvg_make.specs.Accounts.{AllWithin}
use Rattle.dvg_make.specs.Refusals.{BarsFrame, CallBarredAt, EntryFault, Unstraight, Deep, TooManyWords, TooManyEntries, Memory}
use Rattle.dvg_make.specs.Private.Partial.{Extends}
use Rattle.dvg_make.specs.declared.partial.PartialEntry.{PartialEntry}
use Rattle.dvg_make.specs.declared.obstacle.Obstacle.{Obstacle}
use Rattle.dvg_make.specs.declared.obstacle.Blocked.{Blocked}
use Rattle.dvg_make.specs.Private.Making.{HasAll, InProgress, IsCalled, Collected, obstacle_fault, TellsObstacle, IsNoRoot, IsBlocked}

-- the list has an entry for each call of the frame with these words
abbrev pub HasCalls : Machine → List ℕ → List Entry → Type 0
HasCalls machine words list = (to : ℕ) (scale : Key) → FrameAsksFor machine words list to scale → HasEntry list to scale

-- from the old list on, the entry that an instruction of a frame calls at this scale is made
pub record IsCalledBy (rom : Rom) (old : List Entry) (instr : Instr) (scale : Key) (new : List Entry) (callee : Option Entry) : Type 0 where
  pub none : target Frame instr ≡ None → (new ≡ old) × (callee ≡ None)
  pub some : (to : ℕ) → target Frame instr ≡ Some to
      → InProgress rom old (to, scale) new [] × HasEntry new to scale × (callee ≡ entry_at new to scale)

-- the refusal of the entry that the instruction calls is right
abbrev pub BlocksTarget : Rom → List Entry → Instr → Key → Blocked → Type 0
BlocksTarget rom old instr scale blocked = (to : ℕ) × (target Frame instr ≡ Some to) × IsBlocked rom old (to, scale) blocked

-- from the old list on, the entries for all calls of a frame are made
pub record IsFramed (rom : Rom) (words : List ℕ) (old new : List Entry) : Type 0 where
  pub has_calls : HasCalls rom.machine words new
  pub calls : List (ℕ × Key)
  pub calls_are : (to : ℕ) (scale : Key) → Contains calls (to, scale) → FrameAsksFor rom.machine words new to scale
  pub collected : (asked : List (ℕ × Key)) → Collected rom asked old → Collected rom (asked ++ calls) new
  pub forced : (list : List Entry) → AllMade rom list → Extends old list → HasCalls rom.machine words list → Extends new list

-- no list of made entries has all of the old list and an entry for each call of the frame
abbrev pub NoneHasCalls : Rom → List ℕ → List Entry → Type 0
NoneHasCalls rom words old = (list : List Entry) → AllMade rom list → Extends old list → HasCalls rom.machine words list → ⊥

-- each list that has all of these is too long for a certificate
abbrev pub LongHasCalls : Rom → List ℕ → List Entry → Type 0
LongHasCalls rom words old =
    (list : List Entry) → AllMade rom list → Extends old list → HasCalls rom.machine words list → MOST_ENTRIES < length list

-- what a refusal says of such lists
abbrev pub BarsCalls : Rom → List ℕ → List Entry → EntryFault → Type 0
BarsCalls rom words old (Unstraight word) = NoneHasCalls rom words old
BarsCalls rom words old Deep = NoneHasCalls rom words old
BarsCalls rom words old TooManyWords = NoneHasCalls rom words old
BarsCalls rom words old TooManyEntries = LongHasCalls rom words old
BarsCalls rom words old Memory = Unit {0}

-- what a refusal says of such lists, of the call at a word address, and of the frame
abbrev pub BarsHere : Rom → List ℕ → List Entry → ℕ → EntryFault → Type 0
BarsHere rom words old at why = BarsCalls rom words old why × CallBarredAt rom words at why × BarsFrame rom words why

-- a call after items whose calls have their entries
pub record KeyedCall (machine : Machine) (words : List ℕ) (list : List Entry) (to : ℕ) (scale : Key) : Type 0 where
  pub calls : FrameAsksFor machine words list to scale
  pub keyed : AllKeyed machine list calls.earlier

-- the address and the key were asked for before, or the frame calls them
abbrev pub IsGivenHere : Machine → List ℕ → List (ℕ × Key) → List Entry → ℕ → Key → Type 0
IsGivenHere machine words asked list addr key = Contains asked (addr, key) ⊎ KeyedCall machine words list addr key

-- each entry is asked for, or the frame calls it, or another shape does
abbrev pub AllCalledHere : Rom → List ℕ → List Entry → List Entry → List PartialEntry → Type 0
AllCalledHere rom words old list chain =
    (asked : List (ℕ × Key)) → Collected rom asked old → (addr : ℕ) (key : Key) → HasEntry list addr key
    → IsGivenHere rom.machine words asked list addr key ⊎ IsCalled rom list chain addr key

-- the account of the call at a word address is right, by a list of made and needed entries
pub record TellsHere (rom : Rom) (words : List ℕ) (old : List Entry) (at : ℕ) (chain : List PartialEntry)
    (obstacle : Obstacle) : Type 0 where
  pub list : List Entry
  pub within : AllWithin rom list
  pub made : AllMade rom list
  pub to : ℕ
  pub scale : Key
  pub call : CallAt rom.machine words list at to scale
  pub extends : Extends old list
  pub needed : AllCalledHere rom words old list chain
  pub room : length list + length chain ≤ MOST_ENTRIES
  pub tells : TellsObstacle rom list (to, scale) chain obstacle
  pub no_root : IsNoRoot obstacle

-- the refusal of a call of this frame, which is at this index among the frames, is right, and so is its account
pub record BlocksHere (rom : Rom) (index : ℕ) (words : List ℕ) (old : List Entry) (blocked : Blocked) : Type 0 where
  pub at : ℕ
  pub call : blocked.call ≡ Some (record { frame = index; at = at })
  pub bars : BarsHere rom words old at (obstacle_fault blocked.obstacle)
  pub told : TellsHere rom words old at blocked.chain blocked.obstacle

-- ---- frame after frame

-- each of these addresses and keys is a root, or a call of a frame asks for it
abbrev pub AreAskedFor : Machine → List (ℕ × Key) → List (List ℕ) → List Entry → List (ℕ × Key) → Type 0
AreAskedFor machine roots frames list asked =
    (addr : ℕ) (key : Key) → Contains asked (addr, key) → IsAskedFor machine roots frames list addr key

-- the entries for the roots and for all calls of these frames are made
pub record AllFramed (rom : Rom) (roots : List (ℕ × Key)) (frames : List (List ℕ)) (done : List Entry) : Type 0 where
  pub rooted : HasAll roots done
  pub has_calls : (words : List ℕ) → Contains frames words → HasCalls rom.machine words done
  pub asked : List (ℕ × Key)
  pub asked_for : AreAskedFor rom.machine roots frames done asked
  pub collected : Collected rom asked done
  pub forced : (list : List Entry) → AllMade rom list → HasAll roots list
      → ((words : List ℕ) → Contains frames words → HasCalls rom.machine words list) → Extends done list

-- the entries are made for a ROM at this map and for some roots and frames
abbrev pub IsForSome : MemoryMap → List Entry → Type 0
IsForSome map done = (rom : Rom) × (rom.map ≡ map) × (roots : List (ℕ × Key)) × (frames : List (List ℕ)) × AllFramed rom roots frames done

-- the list is made for each ROM, roots and frames for which these entries were made
abbrev pub MakesFor : MemoryMap → List Entry → List Entry → Type 0
MakesFor map done list =
    (rom : Rom) (roots : List (ℕ × Key)) (frames : List (List ℕ)) → rom.map ≡ map → AllFramed rom roots frames done
    → FramesMade rom roots frames list
