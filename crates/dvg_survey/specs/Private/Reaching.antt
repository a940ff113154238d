-- The entries that a frame comes to, each with the call by which it was reached first.
use Rattle.dvg_words.specs.declared.machine.Machine.{Machine}
use Rattle.std.specs.Prelude.{◌≡◌, ℕ, ◌<◌, Bool, List, [], ◌∷◌, ◌++◌, map, slice_get, is_some, Option, None, Some, IfSome, if◌then◌else◌}
use Rattle.dvg_words.specs.Memory.{Rom, frame_word}
use Rattle.dvg_cert.specs.declared.entry.Entry.{Entry}
use Rattle.dvg_cert.specs.Entry.{IsKey}
use Rattle.dvg_cert.specs.Lookup.{entry_at}
use Rattle.dvg_items.specs.Known.{frame_context}
use Rattle.dvg_survey.specs.Calls.{Call, AreCalls}
use Rattle.dvg_survey.specs.Chains.{IsFrameCall, IsShapeCall, IsChain}
use Rattle.dvg_survey.specs.Private.KeyedWords.{KeyedWord, is_marked}
use Rattle.dvg_survey.specs.Private.Visiting.{AreNewCalls}
pub use Rattle.dvg_survey.specs.declared.reached.Link.{Link}

-- the entries that the links call
abbrev pub entries_of : List Link → List Entry
entries_of links = map (λ l. l.call.entry) links

-- the address and the key of an entry
abbrev pub name_of : Entry → KeyedWord
name_of e = (e.addr, e.key)

-- an address and a key are marked exactly where some link's entry has them
abbrev pub AreNames : List Bool → List Link → Type 0
AreNames names links = (place : KeyedWord) → IsKey place.1 → is_marked names place ≡ is_some (entry_at (entries_of links) place.0 place.1)

-- one more link, unless one has its entry
abbrev pub reach : List Link → Link → List Link
reach links l = if is_some (entry_at (entries_of links) l.call.entry.addr l.call.entry.key) then links else links ++ l ∷ []

-- a link for each of these calls, one after another
abbrev pub reach_all : List Link → Option ℕ → List Call → List Link
reach_all links from [] = links
reach_all links from (call ∷ rest) = reach_all (reach links (record { call = call; from = from })) from rest

-- the links of the entries that a frame with these words calls
abbrev pub IsReachedByFrame : Machine → List ℕ → List Entry → List Link → Type 0
IsReachedByFrame machine words list links =
    (calls : List Call) × AreCalls (frame_context machine list) (frame_word machine words) 0 calls × (links ≡ reach_all [] None calls)

-- the links, with those of the entries that the shape of an entry calls where no walk came by before; its own link stands at this
-- index
abbrev pub IsReachedByShape : Rom → List Entry → Entry → ℕ → List Bool → List Bool → List Link → List Link → Type 0
IsReachedByShape rom list e from visited visited_new links new =
    (calls : List Call) × AreNewCalls rom list e visited visited_new calls × (new ≡ reach_all links (Some from) calls)

-- the call is the frame's own, or stands in the shape of the entry of the link at this index
abbrev pub IsStep : Rom → List ℕ → List Entry → List Link → Option ℕ → Call → Type 0
IsStep rom words list links None call = IsFrameCall rom.machine words list call
IsStep rom words list links (Some j) call = (f : Link) × (slice_get links j ≡ Some f) × IsShapeCall rom list f.call.entry call

-- each link is a step from the one that it names
abbrev pub AllSteps : Rom → List ℕ → List Entry → List Link → Type 0
AllSteps rom words list links = (k : ℕ) (l : Link) → slice_get links k ≡ Some l → IsStep rom words list links l.from l.call

-- the call of each link stands in the shape of the entry of an earlier link, or is the frame's own
abbrev pub IsBackward : List Link → Type 0
IsBackward links = (k : ℕ) (l : Link) → slice_get links k ≡ Some l → IfSome l.from (λ j. j < k)

-- these calls lead to the entry of the link at this index, wherever each link is a step
abbrev pub IsTrace : List Link → ℕ → List Call → Type 0
IsTrace links last calls =
    (rom : Rom) (words : List ℕ) (list : List Entry) → AllSteps rom words list links
    → (l : Link) → slice_get links last ≡ Some l → IsChain rom words list calls l.call.entry
