use Rattle.dvg_text.proofs.Common.{refl, inl, inr, first_version_line, second_version_line}
use Rattle.dvg_text.specs.Columns.{IsFirstLine}
use Rattle.dvg_text.proofs.Columns.{allowed_among}
use Rattle.dvg_text.proofs.leaving.first_leaving.Goals as goal

pub returns-then-common : goal.returns-then-common
returns-then-common c = allowed_among IsFirstLine second_version_line _ _ (inr refl) (c.leaving.ensures second_version_line refl)

pub returns : goal.returns
returns c = allowed_among IsFirstLine first_version_line _ _ (inl refl) (c.leaving-2.ensures first_version_line refl)
