-- What is told of all items of a frame. All of it is this project's own.
use Rattle.std.specs.Prelude.{◌≡◌, List}
use Rattle.dvg_words.specs.Values.{Source}
use Rattle.dvg_items.specs.declared.item.Item.{Item}
use Rattle.dvg_items.specs.Known.{Context}
use Rattle.dvg_items.specs.Least.{IsLeast, absolute_points}
use Rattle.dvg_survey.specs.Calls.{AreAll, calls_among}
use Rattle.dvg_survey.specs.Clipping.{AreClippedAmong}
use Rattle.dvg_survey.specs.Faint.{faint_among}
pub use Rattle.dvg_survey.specs.declared.frame_survey.FrameSurvey.{FrameSurvey}

-- of these items: their calls, the least box of what they light at absolute places, which light past the screen, and the draws that
-- light little (profile)
pub record IsSurveyAmong (c : Context) (items : List Item) (s : FrameSurvey) : Type 0 where
  pub are_calls : s.calls.items ≡ calls_among c items
  pub is_extent : IsLeast (absolute_points c items) s.lit
  pub are_clipped : AreClippedAmong c items s.clipped.items
  pub are_faint : s.faint.items ≡ faint_among c items

-- of all items from word address 0 on (profile)
abbrev pub IsSurvey : Context → Source → FrameSurvey → Type 0
IsSurvey c word s = (items : List Item) × AreAll c.kind word 0 items × IsSurveyAmong c items s
