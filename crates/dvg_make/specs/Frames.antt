-- What the maker makes for frames: the list of entries that a ROM, roots and the calls of frames ask for. All of it is this project's own.
use Rattle.dvg_words.specs.declared.machine.Machine.{Machine}
use Rattle.std.specs.Prelude.{◌≡◌, ℕ, ◌⊎◌, List, [], ◌∷◌, Some, Contains}
use Rattle.dvg_words.specs.Memory.{Rom, frame_word}
use Rattle.dvg_words.specs.Decoding.{cell_at}
use Rattle.dvg_words.specs.declared.instruction.Cell.TheVariants.{Holds}
use Rattle.dvg_cert.specs.declared.entry.Entry.{Entry}
use Rattle.dvg_cert.specs.declared.entry.Key.{Key}
use Rattle.dvg_items.specs.Items.{LeadsTo}
use Rattle.dvg_items.specs.declared.item.Item.{Item}
use Rattle.dvg_items.specs.declared.item.Kind.TheVariants.{Frame}
use Rattle.dvg_items.specs.Known.{frame_context, target, scale_before}
use Rattle.dvg_make.specs.Made.{HasEntry, AllHold, MadeFor}
pub use Rattle.dvg_make.specs.declared.maker.MadeCert.{MadeCert}

-- an item of the frame with these words calls this address, at the scale that is known there by the list (profile)
pub record FrameAsksFor (machine : Machine) (words : List ℕ) (list : List Entry) (to : ℕ) (scale : Key) : Type 0 where
  pub earlier : List Item
  pub item : Item
  pub leads : LeadsTo Frame (frame_word machine words) 0 earlier item.at
  pub stands : cell_at (frame_word machine words) item.at ≡ Holds item.format item.instr
  pub target_is : target Frame item.instr ≡ Some to
  pub scale_is : scale_before (frame_context machine list) earlier ≡ scale

-- if the item calls an address, the list has an entry for it, at the scale that is known by this list (profile)
abbrev pub IsKeyed : Machine → List Entry → List Item → Item → Type 0
IsKeyed machine list earlier i =
    (to : ℕ) → target Frame i.instr ≡ Some to → HasEntry list to (scale_before (frame_context machine list) earlier)

-- the list has an entry for each call among these items of a frame (profile)
abbrev pub AllKeyed : Machine → List Entry → List Item → Type 0
AllKeyed machine list items = AllHold (IsKeyed machine list) items

-- the item at this word of the frame calls this address at this scale, by a list that has an entry for each call before
-- (profile)
pub record CallAt (machine : Machine) (words : List ℕ) (list : List Entry) (at : ℕ) (to : ℕ) (scale : Key) : Type 0 where
  pub calls : FrameAsksFor machine words list to scale
  pub at_is : calls.item.at ≡ at
  pub before : AllKeyed machine list calls.earlier

-- the address and the key are a root, or one of the frames calls them (profile)
abbrev pub IsAskedFor : Machine → List (ℕ × Key) → List (List ℕ) → List Entry → ℕ → Key → Type 0
IsAskedFor machine roots frames list addr key =
    Contains roots (addr, key) ⊎ ((words : List ℕ) × Contains frames words × FrameAsksFor machine words list addr key)

-- the list has an entry for each of these roots, and for all that each of these frames calls (profile)
abbrev pub HasAsked : Machine → List (ℕ × Key) → List (List ℕ) → List Entry → Type 0
HasAsked machine roots frames list = (addr : ℕ) (key : Key) → IsAskedFor machine roots frames list addr key → HasEntry list addr key

-- the list is made for the roots and for what the frames call, at the scales that are known by this very list (profile)
abbrev pub FramesMade : Rom → List (ℕ × Key) → List (List ℕ) → List Entry → Type 0
FramesMade rom roots frames list = MadeFor rom (IsAskedFor rom.machine roots frames list) list

-- the list is made for one frame and no roots (profile)
abbrev pub FrameMade : Rom → List ℕ → List Entry → Type 0
FrameMade rom words list = FramesMade rom [] (words ∷ []) list

-- the certificate is made for these roots and frames, and its entries are found by address and key (profile)
pub record IsMadeFor (rom : Rom) (roots : List (ℕ × Key)) (frames : List (List ℕ)) (made : MadeCert) : Type 0 where
  pub list : FramesMade rom roots frames made.cert.entries
  pub map : made.cert.map ≡ rom.map
  pub entries : made.entries ≡ made.cert.entries
