use Rattle.dvg_survey.proofs.Common.{sym, subst}
use Rattle.dvg_kept.specs.Kept.{AreMade}
use Rattle.dvg_survey.proofs.comparing.compare.Goals as goal

pub frame_reaches-requires : goal.frame_reaches-requires
frame_reaches-requires c =
    subst (AreMade c.args.rom.now) (sym c.in_ok-made.ensures.ok.entries)
    (record { certificate = c.in_ok-made.ensures.ok.list.certificate; each = c.in_ok-made.ensures.ok.list.each })
