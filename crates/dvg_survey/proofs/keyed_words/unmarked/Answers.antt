use Rattle.dvg_survey.proofs.Common.{Bool, List, ap, ◌∙◌, is_marked, word_number}
use Rattle.dvg_survey.proofs.Marks.{false_at}
use Rattle.dvg_survey.proofs.keyed_words.unmarked.Goals as goal

pub returns-clause-none : goal.returns-clause-none
returns-clause-none c =
    λ place. ap (λ (marks : List Bool). is_marked marks place) (c.in_ok-marks.ensures.items_if_clones_equal (λ y h. h))
    ∙ false_at c.args.count (word_number place)
