use Rattle.dvg_recipe.proofs.Common.{List, subst, sym}
use Rattle.dvg_cert.specs.declared.entry.Entry.{Entry}
use Rattle.dvg_make.specs.Made.{AllMade}
use Rattle.dvg_recipe.proofs.verdict.judge_by.Goals as goal

pub judge_over-requires-clause-made : goal.judge_over-requires-clause-made
judge_over-requires-clause-made c = subst (λ (l : List Entry). AllMade c.args.rom.now l) (sym c.in_ok-entries.ensures) c.requires.made
