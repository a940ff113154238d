use Rattle.dvg_cmd.proofs.Common.{rules}
use Rattle.dvg_cmd.proofs.listing.Lines.has.Goals as goal

pub returns-in-NotAccepted-Accepted : goal.returns-in-NotAccepted-Accepted
returns-in-NotAccepted-Accepted c = search rules
