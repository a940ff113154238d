use Rattle.dvg_survey.proofs.Common.{[], ◌∷◌, arith, IsAskedFor, FrameMade, FrameRefused, TooManyEntries, Memory}
use Rattle.dvg_make.specs.declared.judging.FrameRefusal.TheVariants.{Make}
use Rattle.dvg_make.specs.declared.fault.EntryFault.{EntryFault}
use Rattle.dvg_make.proofs.Collecting.{made_all}
use Rattle.dvg_survey.proofs.Carrying.{same_list}
use Rattle.dvg_survey.proofs.laws.none_refused.Goals as goal

pub returns : goal.returns
returns c rom other words list u w budget at why refused =
    let made = same_list rom other [] (words ∷ []) list u in by_cause made why refused
  where
    by_cause : FrameMade other words list → (why : EntryFault) → FrameRefused other words w budget (Make at why) → ⊥
    by_cause made TooManyEntries r =
        let long = r.0 list (made_all other (IsAskedFor other.machine [] (words ∷ []) list) list made) made.rooted in
        omega (arith, long, made.certificate.few)
    by_cause made Memory r = r
    by_cause made why r = r.0 list made
