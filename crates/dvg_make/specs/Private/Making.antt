-- The entries that are made so far, and the shapes in the making.
use Rattle.std.specs.Prelude.{◌≡◌, ◌≢◌, ◌⊎◌, ℕ, ◌++◌, ◌+◌, ◌<◌, ◌≤◌, List, [], ◌∷◌, length, Option, Some, None, Contains, slice_get, map}
use Rattle.dvg_words.specs.declared.instruction.Cell.TheVariants.{Holds}
use Rattle.dvg_words.specs.Decoding.{cell_at}
use Rattle.dvg_words.specs.Memory.{Rom, rom_word}
use Rattle.dvg_words.specs.Values.{IsMap}
use Rattle.dvg_cert.specs.Entry.{IsEntry}
use Rattle.dvg_cert.specs.declared.entry.Entry.{Entry}
use Rattle.dvg_cert.specs.declared.entry.Key.{Key}
use Rattle.dvg_cert.specs.Lookup.{entry_at}
use Rattle.dvg_cert.specs.declared.limits.TheConstants.{MOST_ENTRIES, MOST_WORDS}
use Rattle.dvg_items.specs.Items.{LeadsTo}
use Rattle.dvg_items.specs.declared.item.Kind.TheVariants.{Shape}
use Rattle.dvg_items.specs.declared.item.Item.{Item}
use Rattle.dvg_items.specs.Known.{target, scale_before}
use Rattle.dvg_make.specs.declared.partial.PartialEntry.{PartialEntry}
use Rattle.dvg_make.specs.Made.{HasEntry, MadeEntry, AllMade}
use Rattle.dvg_make.specs.Refusals.{EntryFault, Unstraight, Deep, TooManyWords, TooManyEntries, Memory}
use Rattle.dvg_make.specs.Refusals.{FrameCall, FramesFault, FramesRefuse}
use Rattle.dvg_make.specs.Accounts.{ShapeAt, EntryCause, AllTaken, IsLinked, Tells, IsTold, UnlessMemory, IsAccount, entry_fault}
pub use Rattle.dvg_make.specs.Accounts.{IsUnique}
use Rattle.dvg_make.specs.declared.account.EntryCause.TheVariants as cause
use Rattle.dvg_make.specs.declared.account.MakeAccount.{MakeAccount}
use Rattle.dvg_make.specs.declared.obstacle.Obstacle.{Obstacle}
use Rattle.dvg_make.specs.declared.making.Making.{Making}
use Rattle.dvg_make.specs.declared.obstacle.Blocked.{Blocked}
use Rattle.dvg_make.specs.Private.Partial.{keyed_context, start, shape_of, IsPartial, Extends, AreTails}

-- a shape with this address and key is in the making
abbrev pub IsMaking : List PartialEntry → ℕ → Key → Type 0
IsMaking [] addr key = ⊥
IsMaking (w ∷ stack) addr key = ((w.addr ≡ addr) × (w.key ≡ key)) ⊎ IsMaking stack addr key

-- each of these partial entries is right, as far as its items were passed
abbrev pub ArePartial : Rom → List Entry → List PartialEntry → Type 0
ArePartial rom done [] = Unit {0}
ArePartial rom done (w ∷ stack) = IsPartial rom done w × ArePartial rom done stack

-- the list has an entry for each of these shapes; the words of these entries fall, from fewer than `most` to more than n
abbrev pub Chain : List Entry → ℕ → List PartialEntry → ℕ → Type 0
Chain made most [] n = n < most
Chain made most (w ∷ stack) n = (e : Entry) × (entry_at made w.addr w.key ≡ Some e) × (e.words < most) × Chain made e.words stack n

-- no two of these shapes are the same, and none is made
abbrev pub Apart : List Entry → List PartialEntry → Type 0
Apart done [] = Unit {0}
Apart done (w ∷ stack) = (entry_at done w.addr w.key ≡ None) × (IsMaking stack w.addr w.key → ⊥) × Apart done stack

-- the list has an entry at this address and key, or its shape is in the making
abbrev pub IsPresent : List Entry → List PartialEntry → ℕ → Key → Type 0
IsPresent done stack addr key = HasEntry done addr key ⊎ IsMaking stack addr key

-- an item of a shape that is present calls or tail jumps to this address at this key
pub record IsCalled (rom : Rom) (done : List Entry) (stack : List PartialEntry) (addr : ℕ) (key : Key) : Type 0 where
  pub from : ℕ
  pub from_key : Key
  pub present : IsPresent done stack from from_key
  pub earlier : List Item
  pub item : Item
  pub leads : LeadsTo Shape (rom_word rom) from earlier item.at
  pub stands : cell_at (rom_word rom) item.at ≡ Holds item.format item.instr
  pub taken : AllTaken (keyed_context rom.machine done from_key) earlier
  pub target_is : target Shape item.instr ≡ Some addr
  pub key_is : scale_before (keyed_context rom.machine done from_key) earlier ≡ key

-- what the making aims at: a list of made entries that has all of `from`, and one for the root
pub record IsAim (rom : Rom) (from : List Entry) (root : ℕ × Key) (made : List Entry) : Type 0 where
  pub all : AllMade rom made
  pub extends : Extends from made
  pub has : HasEntry made root.0 root.1

-- the address and the key are the root's, or have an entry in the list that was there before
abbrev pub IsGiven : List Entry → ℕ × Key → ℕ → Key → Type 0
IsGiven from root addr key = HasEntry from addr key ⊎ ((root.0 ≡ addr) × (root.1 ≡ key))

-- the entries made so far are right, and no two have the same address and key
pub record IsDone (rom : Rom) (done : List Entry) : Type 0 where
  pub entries : (e : Entry) → Contains done e → IsEntry rom.map.rom_first rom.map.rom_last e
  pub made : (e : Entry) → Contains done e → MadeEntry rom done e
  pub unique : IsUnique done
  pub room : length done ≤ MOST_ENTRIES

-- what is made so far is right for this ROM: its entries are, and the tails are made ones by these
pub record IsRightFor (rom : Rom) (making : Making) : Type 0 where
  pub map : IsMap rom.map
  pub done : IsDone rom making.done
  pub tails : AreTails rom making.done making.tails

-- the addresses and keys of these shapes
abbrev pub shapes : List PartialEntry → List ShapeAt
shapes stack = map shape_of stack

-- the address and key of what is asked for
abbrev pub asked_shape : ℕ × Key → ShapeAt
asked_shape root = record { addr = root.0; key = root.1 }

-- the first of these shapes is what is asked for, and each calls or tail jumps to the next
abbrev pub AreLinked : Rom → List Entry → ℕ × Key → List PartialEntry → Type 0
AreLinked rom done root [] = Unit {0}
AreLinked rom done root (w ∷ stack) = (shape_of w ≡ asked_shape root) × IsLinked rom done (shape_of w) (shapes stack)

-- each entry that is made, and each shape in the making, is given, or one of them calls it
abbrev pub AllCalled : Rom → List Entry → ℕ × Key → List Entry → List PartialEntry → Type 0
AllCalled rom from root done stack =
    (addr : ℕ) (key : Key) → IsPresent done stack addr key → IsGiven from root addr key ⊎ IsCalled rom done stack addr key

-- the making of a root's entry is in progress: `from` was there before, `done` is made, and `stack` has the shapes in the making.
-- Each aim has all of `done`, and entries for the stack, whose words fall from the lowest to the top
pub record InProgress (rom : Rom) (from : List Entry) (root : ℕ × Key) (done : List Entry) (stack : List PartialEntry) : Type 0 where
  pub is_done : IsDone rom done
  pub extends : Extends from done
  pub partials : ArePartial rom done stack
  pub apart : Apart done stack
  pub linked : AreLinked rom done root stack
  pub needed : AllCalled rom from root done stack
  pub room : length done + length stack ≤ MOST_ENTRIES
  pub forced : (made : List Entry) → IsAim rom from root made → Extends done made × Chain made (MOST_WORDS + 1) stack 0

-- the making of some root's entry is in progress
abbrev pub IsInProgress : Rom → List Entry → List PartialEntry → Type 0
IsInProgress rom done stack = (from : List Entry) × (root : ℕ × Key) × InProgress rom from root done stack

-- whatever root's making is in progress with the old lists, it is so with the new ones
abbrev pub StaysInProgress : Rom → List Entry → List PartialEntry → List Entry → List PartialEntry → Type 0
StaysInProgress rom old stack new rest =
    (from : List Entry) (root : ℕ × Key) → InProgress rom from root old stack → InProgress rom from root new rest

-- nothing is such an aim
abbrev pub NoAim : Rom → List Entry → ℕ × Key → Type 0
NoAim rom from root = (made : List Entry) → IsAim rom from root made → ⊥

-- what a refusal means: there is no such aim, or each is too long for a certificate
abbrev pub Bars : Rom → List Entry → ℕ × Key → EntryFault → Type 0
Bars rom from root (Unstraight word) = NoAim rom from root
Bars rom from root Deep = NoAim rom from root
Bars rom from root TooManyWords = NoAim rom from root
Bars rom from root TooManyEntries = (made : List Entry) → IsAim rom from root made → MOST_ENTRIES < length made
Bars rom from root Memory = Unit {0}

-- the refusal means this for each root whose making may be in progress
abbrev pub BarsAll : Rom → List Entry → List PartialEntry → EntryFault → Type 0
BarsAll rom done stack fault = (from : List Entry) (root : ℕ × Key) → InProgress rom from root done stack → Bars rom from root fault

-- the refusal of an entry that has this obstacle
abbrev pub obstacle_fault : Obstacle → EntryFault
obstacle_fault obstacle = entry_fault obstacle.cursor.at obstacle.cause

-- the account of the obstacle is right: its chain, its word address and its cause
abbrev pub TellsObstacle : Rom → List Entry → ℕ × Key → List PartialEntry → Obstacle → Type 0
TellsObstacle rom list root chain obstacle =
    Tells rom list (asked_shape root) (shapes chain) obstacle.cursor.at obstacle.cursor.known obstacle.cause

-- the account is right for each root whose making may be in progress, by the entries that are made, all needed and not too many
abbrev pub TellsAll : Rom → List Entry → List PartialEntry → List PartialEntry → Obstacle → Type 0
TellsAll rom done stack chain obstacle =
    (from : List Entry) (root : ℕ × Key) → InProgress rom from root done stack
    → TellsObstacle rom done root chain obstacle × AllCalled rom from root done chain × (length done + length chain ≤ MOST_ENTRIES)

-- the account of the obstacle is right by some list of made and needed entries, which has all of `from`
pub record IsToldFrom (rom : Rom) (from : List Entry) (root : ℕ × Key) (chain : List PartialEntry) (obstacle : Obstacle) : Type 0 where
  pub list : List Entry
  pub is_done : IsDone rom list
  pub extends : Extends from list
  pub needed : AllCalled rom from root list chain
  pub room : length list + length chain ≤ MOST_ENTRIES
  pub tells : TellsObstacle rom list root chain obstacle

-- the obstacle is not that a root is outside the ROM
abbrev pub IsNoRoot : Obstacle → Type 0
IsNoRoot obstacle = obstacle.cause ≢ cause.RootOutside

-- the refusal of a root's entry is right, and so is its account; it names no call
pub record IsBlocked (rom : Rom) (from : List Entry) (root : ℕ × Key) (blocked : Blocked) : Type 0 where
  pub bars : Bars rom from root (obstacle_fault blocked.obstacle)
  pub told : IsToldFrom rom from root blocked.chain blocked.obstacle
  pub no_root : IsNoRoot blocked.obstacle
  pub call : blocked.call ≡ None

-- why a shape is not begun
abbrev pub NotBegun : List Entry → List PartialEntry → ℕ → Key → EntryCause → Type 0
NotBegun done stack addr key (cause.Ring from) =
    (partial : PartialEntry) × (slice_get stack from ≡ Some partial) × (partial.addr ≡ addr) × (partial.key ≡ key)
NotBegun done stack addr key cause.TooManyEntries = (MOST_ENTRIES ≤ length done + length stack) × (IsMaking stack addr key → ⊥)
NotBegun done stack addr key cause.Memory = Unit {0}
NotBegun done stack addr key other = ⊥

-- a shape was begun that was not in the making, where there is room
pub record IsBegun (done : List Entry) (old new : List PartialEntry) (addr : ℕ) (key : Key) : Type 0 where
  pub stack : new ≡ old ++ start addr key ∷ []
  pub other : IsMaking old addr key → ⊥
  pub few : length done + length old < MOST_ENTRIES

-- ---- what was asked for

-- the list has an entry for each of these
abbrev pub HasAll : List (ℕ × Key) → List Entry → Type 0
HasAll asked list = (addr : ℕ) (key : Key) → Contains asked (addr, key) → HasEntry list addr key

-- what is made once these were asked for, one after another
pub record Collected (rom : Rom) (asked : List (ℕ × Key)) (done : List Entry) : Type 0 where
  pub is_done : IsDone rom done
  pub rooted : HasAll asked done
  pub needed : (addr : ℕ) (key : Key) → HasEntry done addr key → Contains asked (addr, key) ⊎ IsCalled rom done [] addr key
  pub forced : (made : List Entry) → AllMade rom made → HasAll asked made → Extends done made

-- ---- accounts of refusals

-- the account of the obstacle is right, for these roots and frames and this call
abbrev pub IsToldOf : Rom → List (ℕ × Key) → List (List ℕ) → Option FrameCall → List PartialEntry → Obstacle → Type 0
IsToldOf rom roots frames call chain obstacle =
    IsTold rom roots frames call (shapes chain) obstacle.cursor.at obstacle.cursor.known obstacle.cause

-- the refusal of the certificate, by the root or call whose entry can't be made
abbrev pub blocked_fault : Blocked → FramesFault
blocked_fault blocked = record { call = blocked.call; why = obstacle_fault blocked.obstacle }

-- the refusal of the certificate for these roots and frames is right, and so is its account, unless memory was out
pub record IsRefused (rom : Rom) (roots : List (ℕ × Key)) (frames : List (List ℕ)) (blocked : Blocked) : Type 0 where
  pub refuse : FramesRefuse rom roots frames (blocked_fault blocked)
  pub told : UnlessMemory blocked.obstacle.cause (IsToldOf rom roots frames blocked.call blocked.chain blocked.obstacle)

-- the refusal and the account that are told for these roots and frames are right
pub record TellsRight (rom : Rom) (roots : List (ℕ × Key)) (frames : List (List ℕ)) (account : MakeAccount) : Type 0 where
  pub refuse : FramesRefuse rom roots frames account.fault
  pub why : account.fault.why ≡ entry_fault account.at account.cause
  pub chain : IsAccount rom roots frames account
