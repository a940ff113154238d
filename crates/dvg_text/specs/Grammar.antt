-- How a certificate is spelled: a line is its tokens with one space between, and each line ends with LF.
use Rattle.std.specs.Prelude.{◌≡◌, ℕ, ◌/◌, ◌%◌, List, [], ◌∷◌, ◌++◌, length, codes, decimal, true, if◌then◌else◌}
use Rattle.std.specs.Fmt.{signed_decimal, digit_glyph}
use Rattle.std.specs.List.{join_with_byte, flat_map}
use Rattle.dvg_words.specs.Values.{MemoryMap, is_asteroids}
use Rattle.dvg_text.specs.Limits.{LINE_FEED, SPACE}
use Rattle.dvg_cert.specs.declared.entry.Key.{Key}
use Rattle.dvg_cert.specs.declared.entry.Key.TheVariants.{At, Any}
use Rattle.dvg_cert.specs.declared.entry.End.{End}
use Rattle.dvg_cert.specs.declared.entry.End.TheVariants.{Rel, Abs, Lost}
use Rattle.dvg_cert.specs.declared.entry.LitBox.{LitBox}
use Rattle.dvg_cert.specs.declared.entry.LitBox.TheVariants.{Empty, Span}
use Rattle.dvg_cert.specs.declared.entry.Entry.{Entry}
use Rattle.dvg_cert.specs.Order.{Certificate, IsCertificate}

-- a word address: three hexadecimal digits in capitals (profile)
abbrev pub address_token : ℕ → List ℕ
address_token a = digit_glyph true (a / 256) ∷ digit_glyph true (a / 16 % 16) ∷ digit_glyph true (a % 16) ∷ []

-- a scale: its decimal, or any (profile)
abbrev pub key_token : Key → List ℕ
key_token (At n) = decimal n
key_token Any = codes "any"

-- X, then Y (profile)
abbrev pub end_tokens : End → List (List ℕ)
end_tokens (Rel x y) = codes "rel" ∷ signed_decimal x ∷ signed_decimal y ∷ []
end_tokens (Abs x y) = codes "abs" ∷ signed_decimal x ∷ signed_decimal y ∷ []
end_tokens Lost = codes "lost" ∷ []

-- XMIN, XMAX, YMIN, YMAX (profile)
abbrev pub box_tokens : LitBox → List (List ℕ)
box_tokens Empty = codes "none" ∷ []
box_tokens (Span x_min x_max y_min y_max) = signed_decimal x_min ∷ signed_decimal x_max ∷ signed_decimal y_min ∷ signed_decimal y_max ∷ []

-- an entry (profile)
abbrev pub entry_tokens : Entry → List (List ℕ)
entry_tokens e = codes "shape" ∷ address_token e.addr ∷ key_token e.key ∷ codes "end" ∷ end_tokens e.stop ++ codes "box" ∷ box_tokens e.lit
    ++ codes "depth" ∷ decimal e.depth ∷ codes "words" ∷ decimal e.words ∷ codes "scale" ∷ key_token e.scale ∷ []

-- the first line of version 1, for the ROM of Asteroids (profile)
abbrev pub first_version_line : List ℕ
first_version_line = codes "dvgcert 1"

-- the first line of version 2, for a ROM elsewhere (profile)
abbrev pub second_version_line : List ℕ
second_version_line = codes "dvgcert 2"

-- where a ROM lies: the word addresses of its first and its last word (profile)
abbrev pub rom_line : MemoryMap → List ℕ
rom_line map = join_with_byte SPACE (codes "rom" ∷ address_token map.rom_first ∷ address_token map.rom_last ∷ [])

-- the lines before the entries, which say the version and where the ROM lies (profile)
abbrev pub heading : MemoryMap → List (List ℕ)
heading map = if is_asteroids map then first_version_line ∷ [] else second_version_line ∷ rom_line map ∷ []

-- the line of an entry, without its end (profile)
abbrev pub entry_line : Entry → List ℕ
entry_line e = join_with_byte SPACE (entry_tokens e)

-- the last line, with the number of entries, without its end (profile)
abbrev pub done_line : ℕ → List ℕ
done_line n = join_with_byte SPACE (codes "done" ∷ decimal n ∷ [])

-- a line with its end (profile)
abbrev pub ended : List ℕ → List ℕ
ended line = line ++ LINE_FEED ∷ []

-- the first lines, and a line for each entry (profile)
unfoldable pub begun_with : MemoryMap → List Entry → List ℕ
begun_with map es = flat_map ended (heading map) ++ flat_map (λ e. ended (entry_line e)) es

-- the only text of a map and a list: these lines, and a last line with the number of entries (profile)
abbrev pub text_of : MemoryMap → List Entry → List ℕ
text_of map es = begun_with map es ++ ended (done_line (length es))

-- the text spells this certificate (profile)
abbrev pub Spells : Certificate → List ℕ → Type 0
Spells c text = IsCertificate c.map c.entries × (text ≡ text_of c.map c.entries)
