use Rattle.dvg_recipe.proofs.MemberExample.{worked_members as law}
use Rattle.dvg_recipe.proofs.laws.worked_members.Goals as goal

pub returns : goal.returns
returns c = law
