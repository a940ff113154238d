-- What a verdict on a recipe says that is ready to be judged.
use Rattle.dvg_recipe_cmd.proofs.Common.{◌≡◌, ◌≤◌, sym, ap, subst}
use Rattle.dvg_recipe.specs.Lengths.{FitsAreas}
use Rattle.dvg_recipe.specs.Means.{AllMean, AllTake}
use Rattle.dvg_clocks.specs.declared.frames.Timing.{Timing}
use Rattle.dvg_clocks.specs.declared.judging.TimedYes.{TimedYes}
use Rattle.dvg_cmd.specs.declared.timed_judge.ClockOptions.{ClockOptions}
use Rattle.dvg_cmd.specs.declared.timed_judge.LineClocks.{LineClocks}
use Rattle.dvg_cmd.specs.declared.timed_judge.LineClocks.TheVariants as line_clocks
use Rattle.dvg_check.specs.declared.verdict.Yes.{Yes}
use Rattle.dvg_recipe_cmd.specs.declared.judging.Ready.{Ready}
use Rattle.dvg_recipe_cmd.specs.Recipes.{IsAcceptedRecipe, IsTimedAnswer, IsTimedYes, told_yes}
use Rattle.dvg_recipe_cmd.specs.Private.Judging.{IsReady}

module _ (r : Ready) (ready : IsReady r) where
  pub accepted : (counts : Yes) → AllMean r.image r.read.recipe r.explained.options.window counts.words counts.depth
      → FitsAreas r.read.recipe → IsAcceptedRecipe r.explained.rom.now r.explained.options counts
  accepted counts means fits =
      record {
        recipe = r.read.recipe;
        rom_length = ready.rom_length;
        budget = ready.budget;
        fits = fits;
        means = subst (λ rom. AllMean rom r.read.recipe r.explained.options.window counts.words counts.depth) ready.image_is means;
      }

  pub timed_yes : (timing : Timing) (timed : TimedYes)
      → AllMean r.image r.read.recipe r.explained.options.window timed.yes.words timed.yes.depth → FitsAreas r.read.recipe
      → AllTake timing.states r.image r.read.recipe timed.clocks → timed.clocks.most ≤ timing.limit
      → IsTimedYes r.explained.rom.now r.explained.options timing timed
  unfolding accepted
  timed_yes timing timed means fits take within =
      record {
        accepted = accepted timed.yes means fits;
        take = subst (λ rom. AllTake timing.states rom r.read.recipe timed.clocks) ready.image_is take;
        within = within;
      }

  -- an accepted recipe is told as the line tells it
  pub told : (clocks : ClockOptions) (timed : TimedYes) (l : LineClocks) → clocks.line ≡ l
      → IsTimedYes r.explained.rom.now r.explained.options clocks.timing timed
      → IsTimedAnswer r.explained.rom.now r.explained.options clocks (told_yes l timed)
  told clocks timed line_clocks.Told is accepts = (is, accepts)
  told clocks timed line_clocks.LeftOut is accepts = (timed, sym (ap (λ l. told_yes l timed) is), accepts)
