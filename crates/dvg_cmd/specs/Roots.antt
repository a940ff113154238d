-- The root that a word spells, by its address or by a label. All of it is this project's own.
use Rattle.std.specs.Prelude.{◌≡◌, ℕ, List, ◌∷◌, ◌++◌, ◌⊎◌, Option, Some, None, Err}
use Rattle.std.specs.Borrow.{Bor}
use Rattle.dvg_cert.specs.declared.entry.Key.{Key}
use Rattle.dvg_cert.specs.Entry.{IsKey}
use Rattle.dvg_text.specs.Grammar.{key_token}
use Rattle.dvg_labels.specs.Labels.{Labelling, StandsAt, IsAddress}
use Rattle.dvg_labels.specs.declared.fault.Unnamed.{Unnamed}
use Rattle.dvg_spelling.specs.Arguments.{IsRoot}
use Rattle.dvg_cmd.specs.declared.roots.TheConstants.{SLASH}

-- the text is a label's name, a slash and this key
pub record NamesRoot (text name : List ℕ) (key : Key) : Type 0 where
  pub is_key : IsKey key
  pub spelled : text ≡ name ++ SLASH ∷ key_token key

-- the text is no root's by its address
abbrev pub IsNoRoot : List ℕ → Type 0
IsNoRoot text = (addr : ℕ) (key : Key) → IsRoot text addr key → ⊥

-- the text is this root's by one of these labels, all of which of the name stand at the address
abbrev pub IsNamedRoot : Option (Bor Labelling) → List ℕ → ℕ → Key → Type 0
IsNamedRoot None text addr key = ⊥
IsNamedRoot (Some labels) text addr key = (name : List ℕ) × NamesRoot text name key × StandsAt labels.now.named name addr

-- the text is this root's by its address, or else, where it is no root's by its address, by a label
abbrev pub IsRootBy : Option (Bor Labelling) → List ℕ → ℕ → Key → Type 0
IsRootBy labels text addr key = IsRoot text addr key ⊎ (IsNoRoot text × IsNamedRoot labels text addr key)

-- the text is no root's by its address, but a label's name, a slash and a key, and no label, or labels at two addresses, with the name
abbrev pub NamesNoAddress : Option (Bor Labelling) → List ℕ → Unnamed → Type 0
NamesNoAddress None text why = ⊥
NamesNoAddress (Some labels) text why =
    IsNoRoot text × (name : List ℕ) × (key : Key) × NamesRoot text name key × IsAddress labels.now.named name (Err why)
