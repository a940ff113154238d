-- What one more item adds to a survey.
use Rattle.std.specs.Prelude.{◌≡◌, List, ◌++◌}
use Rattle.dvg_words.specs.declared.beam.Point.{Point}
use Rattle.dvg_cert.specs.declared.entry.Key.{Key}
use Rattle.dvg_items.specs.declared.seen.Seen.{Seen}
use Rattle.dvg_items.specs.Least.{IsLeast}
use Rattle.dvg_items.specs.Lit.{absolute_corners}
use Rattle.dvg_survey.specs.Calls.{call_of}
use Rattle.dvg_survey.specs.Clipping.{ClippedPast}
use Rattle.dvg_survey.specs.Faint.{faint_past}
use Rattle.dvg_survey.specs.Survey.{FrameSurvey}

-- past an item, before which this scale is known
pub record IsSurveyPast (old : FrameSurvey) (v : Seen) (scale : Key) (new : FrameSurvey) : Type 0 where
  pub calls : new.calls.items ≡ old.calls.items ++ call_of v.item v.callee
  pub lit : (ps : List Point) → IsLeast ps old.lit → IsLeast (absolute_corners v.extent v.place ++ ps) new.lit
  pub clipped : ClippedPast old.clipped.items v.item.at v.extent v.place new.clipped.items
  pub faint : new.faint.items ≡ faint_past old.faint.items v.item scale
