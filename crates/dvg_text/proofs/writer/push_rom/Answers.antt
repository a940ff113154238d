use Rattle.dvg_text.proofs.Common.{append_assoc}
use Rattle.dvg_text.proofs.writer.push_rom.Goals as goal

pub returns : goal.returns
returns c =
    rw (c.push_bytes-2.ensures, c.push_address-2.ensures.value, c.push_address.ensures.value, c.push_bytes.ensures) (simp append_assoc)
