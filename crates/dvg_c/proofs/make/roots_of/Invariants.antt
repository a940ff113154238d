use Rattle.dvg_c.proofs.Common.{◌≡◌, take, of_each, root_of}
use Rattle.dvg_c.proofs.make.roots_of.Given as goal

-- the roots so far
abbrev pub invariant-roots : goal.invariant-roots
invariant-roots l = l.all.items ≡ of_each root_of (take l.i l.roots)
