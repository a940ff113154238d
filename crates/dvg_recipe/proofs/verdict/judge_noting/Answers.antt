use Rattle.dvg_recipe.proofs.Knowing.{all_made}
use Rattle.dvg_recipe.proofs.verdict.judge_noting.Goals as goal

pub judge_by-requires-clause-made : goal.judge_by-requires-clause-made
judge_by-requires-clause-made c = all_made c.args.rom.now _ _ c.in-Ok.ensures.ok
