-- A recipe over the items of one frame, by their indices: an index stands for the items before it.
use Rattle.std.specs.Prelude.{◌≡◌, ◌≤◌, ◌<◌, ◌⊎◌, ◌↔◌, ℕ, zero, suc, List, [], ◌∷◌, Contains, length, get_or, take, reverse}
use Rattle.dvg_words.specs.declared.instruction.Instr.TheVariants.{Jmpl}
use Rattle.dvg_items.specs.declared.item.Item.{Item}
use Rattle.dvg_recipe.specs.Recipes.{Recipe, Area, Piece, Part, Jump, Row, Then', Either', Repeat', Takes, Arrives}
use Rattle.dvg_recipe.specs.Members.{LeadsInto}
use Rattle.dvg_recipe.specs.Private.KnownPlaces.{ItemsOver}

-- what leads from one index to another
abbrev pub Leads : Type 1
Leads = ℕ → ℕ → Type 0

-- one and then the other
abbrev pub Both : Leads → Leads → Leads
Both R S i j = (k : ℕ) × R i k × S k j

-- n times
abbrev pub TimesOver : ℕ → Leads → Leads
TimesOver zero R i j = j ≡ i
TimesOver (suc n) R i j = Both R (TimesOver n R) i j

-- from `least` times to `most` times
abbrev pub Turns : ℕ → ℕ → Leads → Leads
Turns least most R i j = (n : ℕ) × (least ≤ n) × (n ≤ most) × TimesOver n R i j

-- the item at an index is one that the piece allows, and leads to where it has to, and the next index is behind it
pub record PieceLeads (piece : Piece) (over : ItemsOver) (i j : ℕ) : Type 0 where
  pub item : Item
  pub within : i < length over.items
  pub there : get_or over.items i item ≡ item
  pub taken : Takes piece.kind item.format item.instr
  pub arrives : Arrives (LeadsInto over.rom) piece.kind (reverse (take j over.items))
  pub next : j ≡ suc i

-- the pieces allow the items between two indices
abbrev pub RowLeads : List Piece → ItemsOver → Leads
RowLeads [] over i j = j ≡ i
RowLeads (piece ∷ row) over i j = Both (PieceLeads piece over) (RowLeads row over) i j

-- the part spells the items between two indices
abbrev pub PartLeads : Part → ItemsOver → Leads
PartLeads (Row row) over i j = RowLeads row.items over i j
PartLeads (Then' p a q b) over i j = Both (PartLeads a over) (PartLeads b over) i j
PartLeads (Either' p a q b) over i j = PartLeads a over i j ⊎ PartLeads b over i j
PartLeads (Repeat' least most p body) over i j = (n : ℕ) × (least ≤ n) × (n ≤ most) × TimesOver n (PartLeads body over) i j

-- the item at an index is a JMPL to a word address, and the next index is behind it
pub record JumpLeads (to : ℕ) (over : ItemsOver) (i j : ℕ) : Type 0 where
  pub item : Item
  pub within : i < length over.items
  pub there : get_or over.items i item ≡ item
  pub jumps : item.instr ≡ Jmpl to
  pub next : j ≡ suc i

-- the jumps and their parts spell the items between two indices
abbrev pub JumpsLead : List Jump → ItemsOver → Leads
JumpsLead [] over i j = j ≡ i
JumpsLead (jump ∷ jumps) over i j = Both (JumpLeads jump.area.first over) (Both (PartLeads jump.body over) (JumpsLead jumps over)) i j

-- the index of a list's first item
abbrev pub ListStarts : ℕ → ItemsOver → ℕ → Type 0
ListStarts zero over j = j ≡ 0
ListStarts (suc n) over j = JumpLeads (suc n) over 0 j

-- the index of the first item of one of the lists
pub record SomeStarts (lists : List Area) (over : ItemsOver) (j : ℕ) : Type 0 where
  pub area : Area
  pub listed : Contains lists area
  pub starts : ListStarts area.first over j

-- a set has just the indices of two others
pub record IsJoined (some others all : List ℕ) : Type 0 where
  pub each : (j : ℕ) → Contains all j ↔ (Contains some j ⊎ Contains others j)

-- the second set has just the indices to which something leads from the first
pub record IsPast (R : Leads) (before after : List ℕ) : Type 0 where
  pub each : (j : ℕ) → Contains after j ↔ ((i : ℕ) × Contains before i × R i j)

-- the index behind all items of one of a recipe's lists
pub record RecipeLeads (recipe : Recipe) (over : ItemsOver) (j : ℕ) : Type 0 where
  pub start : ℕ
  pub starts : SomeStarts recipe.lists over start
  pub spelled : Both (PartLeads recipe.body over) (JumpsLead recipe.jumps over) start j

-- the set has just the indices of which this holds
pub record AreThose (P : ℕ → Type 0) (set : List ℕ) : Type 0 where
  pub each : (j : ℕ) → Contains set j ↔ P j
