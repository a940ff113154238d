use Rattle.dvg_verdict.proofs.OneVerdict.{same_verdict as law}
use Rattle.dvg_verdict.proofs.laws.one_verdict.Goals as goal

pub returns : goal.returns
returns c = law c.one_certificate.ensures c.one_answer.ensures
