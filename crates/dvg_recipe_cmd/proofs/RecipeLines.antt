-- The line of one recipe alone.
use Rattle.dvg_recipe_cmd.proofs.Common.{◌≡◌, sym, ap, ◌∙◌, ◌++◌, subst, ℕ, List, [], ◌∷◌, Option, append-nil}
use Rattle.dvg_cmd.specs.Telling.{Line, Reports, WritesLine, gone_with, no_line, texts_of, all_texts}
use Rattle.dvg_cmd.specs.declared.progress.Progress.{Progress}
use Rattle.dvg_cmd.specs.declared.detail.Detail.TheVariants as details
use Rattle.dvg_cmd.specs.Detail.{Behind}
use Rattle.dvg_cmd.specs.Sent.{Sent}
use Rattle.dvg_recipe_cmd.specs.Recipes.{RecipeAnswer, of_recipes}

module _ {A : Type 0} (IsLineOf : A → Line (RecipeAnswer × Behind) → Type 0) where
  pub one_told : (recipe : A) (old new : Option (List ℕ)) (first p : Progress (Unit {0})) (writes writes_after : ℕ)
      → first ≡ no_line (of_recipes details.Line)
      → WritesLine IsLineOf (of_recipes details.Line) recipe old new first p writes writes_after
      → Reports IsLineOf (of_recipes details.Line) (recipe ∷ []) old new writes writes_after p.worst
  one_told recipe old new first p writes writes_after is one =
      let texts = texts_of (of_recipes details.Line) first one.line in
      let same : texts ≡ all_texts (of_recipes details.Line) (one.line ∷ []) =
      sym (append-nil (texts ++ []) ∙ append-nil texts)
      ∙ ap (λ q. (texts_of (of_recipes details.Line) q one.line ++ []) ++ []) is in
      let sent = subst (λ ts. Sent ts old new writes writes_after) same one.sent in
      record {
        lines = one.line ∷ [];
        lines_of = (one.line_of, tt);
        written = sent.written;
        one_write = sent.one_write;
        outcome_is = ap (λ (q : Progress (Unit {0})). q.worst) (one.progress_is ∙ ap (λ q. gone_with (of_recipes details.Line) q one.line) is);
      }
