use Rattle.dvg_make.proofs.Finishing.{made_roots}
use Rattle.dvg_make.proofs.maker.make.Goals as goal

pub returns-in-Ok-clause-ok : goal.returns-in-Ok-clause-ok
returns-in-Ok-clause-ok c = made_roots c.args.rom.now c.args.roots.now c.in-Ok.cert.entries c.in-Ok.ensures.ok
