use Rattle.dvg_text.proofs.TextLaws as texts
use Rattle.dvg_text.proofs.laws.open_prefix.Goals as goal

pub returns : goal.returns
returns c = texts.open_prefix
