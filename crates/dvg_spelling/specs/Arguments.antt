-- What words of the command line spell. All of it is this project's own.
use Rattle.std.specs.Prelude.{◌≡◌, ℕ, ◌<◌, List, [], ◌∷◌, ◌++◌, codes}
use Rattle.std.specs.Fmt.{signed_decimal}
use Rattle.std.specs.List.{join_with_byte}
use Rattle.dvg_words.specs.Values.{MemoryMap, IsMap, Window, IsWindow}
use Rattle.dvg_words.specs.declared.map.TheConstants.{ADDRESS_END}
use Rattle.dvg_cert.specs.declared.entry.Key.{Key}
use Rattle.dvg_cert.specs.Entry.{IsKey}
use Rattle.dvg_text.specs.Grammar.{address_token, key_token}
use Rattle.dvg_spelling.specs.declared.window.TheConstants.{COMMA}

-- the text is this root's: its address, a slash and its key
abbrev pub IsRoot : List ℕ → ℕ → Key → Type 0
IsRoot text addr key = (addr < ADDRESS_END) × IsKey key × (text ≡ address_token addr ++ codes "/" ++ key_token key)

-- the text is this map's: the word addresses of its first and its last word, with a slash between
abbrev pub IsMapText : List ℕ → MemoryMap → Type 0
IsMapText text map = IsMap map × (text ≡ address_token map.rom_first ++ codes "/" ++ address_token map.rom_last)

-- the text is this word address's
abbrev pub IsStart : List ℕ → ℕ → Type 0
IsStart text addr = (addr < ADDRESS_END) × (text ≡ address_token addr)

-- the text is this window's, which is a part of the screen: its least and its greatest place across, and those up, with commas between
abbrev pub IsWindowText : List ℕ → Window → Type 0
IsWindowText text w = IsWindow w
    × (text ≡ join_with_byte COMMA (signed_decimal w.x_min ∷ signed_decimal w.x_max ∷ signed_decimal w.y_min ∷ signed_decimal w.y_max ∷ []))
