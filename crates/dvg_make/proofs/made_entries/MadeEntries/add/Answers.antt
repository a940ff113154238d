use Rattle.dvg_make.proofs.Common.{◌≡◌, ◌++◌, ◌∷◌, [], arith, sym, subst, lookup_is, pair_test, pair_eq, keyed_push, insert_entry-new, IsKeyed}
use Rattle.dvg_make.proofs.made_entries.MadeEntries.add.Goals as goal

pub invariant_of-self-2 : goal.invariant_of-self-2
invariant_of-self-2 c =
    let before = c.self.inside.found.entries in
    let looked = lookup_is (pair_eq (c.args.entry.addr, c.args.entry.key)) c.args.entry.addr c.args.entry.key
    (pair_test c.args.entry.addr c.args.entry.key) before c.self.invariant in
    let added : c.insert.new.self.entries ≡ before ++ ((c.args.entry.addr, c.args.entry.key), c.args.entry) ∷ [] =
    grind (arith, looked, insert_entry-new) in
    subst IsKeyed (sym added) (keyed_push before c.args.entry c.requires.claim c.self.invariant)
