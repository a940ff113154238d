-- Which shapes read a word in which two ROMs differ. All of it is this project's own.
use Rattle.std.specs.Prelude.{◌≡◌, ◌≢◌, ◌⊎◌, ℕ, List, [], ◌∷◌, Contains}
use Rattle.dvg_words.specs.Memory.{Rom, word_of_rom, rom_word}
use Rattle.dvg_words.specs.Generator.{fetches}
use Rattle.dvg_cert.specs.declared.entry.Entry.{Entry}
use Rattle.dvg_items.specs.declared.item.Item.{Item}
use Rattle.dvg_items.specs.declared.item.Kind.TheVariants.{Shape}
use Rattle.dvg_items.specs.Items.{LeadsTo}
pub use Rattle.dvg_survey.specs.declared.touched.TouchedEntry.{TouchedEntry}

-- two ROMs lie at the same addresses, and the same machine runs them (profile)
pub record AreAlike (rom other : Rom) : Type 0 where
  pub map : rom.map ≡ other.map
  pub machine : rom.machine ≡ other.machine

-- the ROMs have different words at this address (profile)
abbrev pub DiffersAt : Rom → Rom → ℕ → Type 0
DiffersAt rom other p = word_of_rom rom p ≢ word_of_rom other p

-- the word addresses that the generator fetches for what stands at an address of the ROM: one, or two for a long instruction
abbrev pub taken_at : Rom → ℕ → List ℕ
taken_at rom at = fetches (word_of_rom rom at) at

-- the shape at an address reads a word: items lead to what takes it; a shape ends with its tail jump (profile)
pub record Reads (rom : Rom) (addr p : ℕ) : Type 0 where
  pub earlier : List Item
  pub at : ℕ
  pub leads : LeadsTo Shape (rom_word rom) addr earlier at
  pub taken : Contains (taken_at rom at) p

-- the shape at an address of the first ROM reads this word, in which the ROMs differ (profile)
pub record ReadsDiffering (rom other : Rom) (addr p : ℕ) : Type 0 where
  pub reads : Reads rom addr p
  pub differs : DiffersAt rom other p

-- the shape at an address of the first ROM is touched: it reads a word in which the ROMs differ (profile)
abbrev pub IsTouched : Rom → Rom → ℕ → Type 0
IsTouched rom other addr = (p : ℕ) × ReadsDiffering rom other addr p

-- the shape of an entry of this list is touched (profile)
abbrev pub ReachesTouched : Rom → Rom → List Entry → Type 0
ReachesTouched rom other list = (e : Entry) × Contains list e × IsTouched rom other e.addr

-- the first of these is the entry, with a word that its shape reads and in which the ROMs differ; the rest is as P says (profile)
pub record IsNext (rom other : Rom) (e : Entry) (touched : List TouchedEntry) (P : List TouchedEntry → Type 0) : Type 0 where
  pub word : ℕ
  pub rest : List TouchedEntry
  pub first : touched ≡ record { entry = e; word = word } ∷ rest
  pub differs : ReadsDiffering rom other e.addr word
  pub others : P rest

-- these are the entries of the list whose shapes are touched, in their order, each with such a word (profile)
abbrev pub AreTouched : Rom → Rom → List Entry → List TouchedEntry → Type 0
AreTouched rom other [] touched = touched ≡ []
AreTouched rom other (e ∷ list) touched =
    ((IsTouched rom other e.addr → ⊥) × AreTouched rom other list touched) ⊎ IsNext rom other e touched (AreTouched rom other list)
