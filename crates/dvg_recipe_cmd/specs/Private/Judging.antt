-- What a recipe is judged over, and what is written behind its line.
use Rattle.std.specs.Prelude.{◌≡◌, ◌≤◌, length}
use Rattle.dvg_words.specs.declared.machine.Machine.TheVariants.{Board}
use Rattle.dvg_words.specs.Memory.{IsRomLength, rom_on}
use Rattle.dvg_cert.specs.declared.limits.TheConstants.{MOST_WORDS}
use Rattle.dvg_cmd.specs.declared.detail.Detail.{Detail}
use Rattle.dvg_cmd.specs.declared.detail.Detail.TheVariants as detail
use Rattle.dvg_recipe_cmd.specs.declared.judging.Ready.{Ready}
use Rattle.dvg_recipe_cmd.specs.declared.judging.Wanted.{Wanted}
use Rattle.dvg_recipe_cmd.specs.declared.judging.Wanted.TheVariants as wanted

-- the image is that of the ROM's bytes, and a frame may take so many words
pub record IsReady (ready : Ready) : Type 0 where
  pub image_is : ready.image ≡ rom_on Board ready.explained.options.map ready.explained.rom.now
  pub rom_length : IsRomLength ready.explained.options.map (length ready.explained.rom.now)
  pub budget : ready.explained.options.budget ≤ MOST_WORDS

-- what is written behind the line of a recipe of which this is wanted
abbrev pub wanted_detail : Wanted → Detail
wanted_detail wanted.Verdict = detail.Line
wanted_detail wanted.Witness = detail.Line
wanted_detail (wanted.Account labels) = detail.Account labels
