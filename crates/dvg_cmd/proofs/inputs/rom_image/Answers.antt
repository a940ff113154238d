use Rattle.dvg_cmd.proofs.Common.{rules}
use Rattle.dvg_cmd.proofs.inputs.rom_image.Goals as goal

pub returns-in-Ok-clause-image : goal.returns-in-Ok-clause-image
returns-in-Ok-clause-image c = search rules
