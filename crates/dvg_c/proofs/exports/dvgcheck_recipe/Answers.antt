use Rattle.std.specs.Prelude.{None}
use Rattle.dvg_c.proofs.Common.{◌∙◌, Ok, Err, refl, sym, subst}
use Rattle.dvg_recipe_cmd.specs.Recipes.{IsVerdict, IsAcceptedRecipe}
use Rattle.dvg_c.specs.Recipes.{TellsWitness}
use Rattle.dvg_c.proofs.exports.dvgcheck_recipe.Goals as goal

pub returns-in-Ok-clause-verdict : goal.returns-in-Ok-clause-verdict
returns-in-Ok-clause-verdict c =
    let judged = c.judge_text-judged in
    let options_are = c.in-Ok.ensures.ok.0 in
    record {
      verdict = Ok judged.result.verdict;
      holds = (c.in-Ok.ensures.ok.1, coe 0 1 (i. IsVerdict c.args.rom.now (options_are i) judged.result.verdict) judged.ensures.verdict);
      shown = judged.result.witness;
      told = subst (λ bare. TellsWitness judged.result.witness bare c.args.frame.now c.put_witness.new.buffer c.put_witness.result)
          c.recipe_answer_of.ensures.value c.put_witness.ensures.told;
    }

pub returns-in-Ok-clause-means : goal.returns-in-Ok-clause-means
returns-in-Ok-clause-means c = λ zero.
    let judged = c.judge_text-judged in
    let options_are = c.in-Ok.ensures.ok.0 in
    let counts_are = sym c.put_witness.ensures.counts in
    let accepted = c.recipe_answer_of.ensures.accepted (sym c.put_witness.ensures.number ∙ zero) in
    let means = subst (IsVerdict c.args.rom.now c.in-Ok.options) accepted judged.ensures.verdict in
    coe 0 1 (i. IsAcceptedRecipe c.args.rom.now (options_are i) (counts_are i)) means

pub returns-in-Err-clause-verdict : goal.returns-in-Err-clause-verdict
returns-in-Err-clause-verdict c =
    record {
      verdict = Err c.in-Err.answer.number;
      holds = c.in-Err.ensures.err;
      shown = Ok None;
      told = (c.in-Err.ensures.alone, refl);
    }
