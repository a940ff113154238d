use Rattle.dvg_text.proofs.Common.{◌≡◌, refl, rom_line, ended}
use Rattle.dvg_words.specs.Values.{MemoryMap}
use Rattle.dvg_text.specs.Columns.{IsRomLine}
use Rattle.dvg_text.proofs.Columns.{allowed_among}
use Rattle.dvg_text.proofs.leaving.rom_leaving.Goals as goal

pub returns : goal.returns
returns c =
    let map : MemoryMap = record { rom_first = c.rom-first.result.0; rom_last = c.rom-first.result.1 } in
    let text : c.as_slice.result.now ≡ ended (rom_line map) =
    rw (c.as_slice.ensures.value, c.push_rom.ensures, c.new-allowed.ensures) refl in
    allowed_among IsRomLine (rom_line map) _ _ (map, c.rom-first.ensures, refl) (c.leaving.ensures (rom_line map) text)
