use Rattle.dvg_make.proofs.Common.{arith, ◌∙◌, List, sym, ap, Entry, entry_at, IsKeyed, lookup_is, pair_test, IsOwn}
use Rattle.std.proofs.lemmas.List.Sorted.{All-permutation}
use Rattle.dvg_make.proofs.Pairs.{rising}
use Rattle.dvg_make.proofs.Turns.{on_ok}
use Rattle.dvg_make.proofs.made_entries.MadeEntries.sort.Goals as goal

pub invariant_of-self : goal.invariant_of-self
invariant_of-self c =
    All-permutation IsOwn c.self.inside.found.entries c.sort_keys.new.self.entries c.sort_keys.ensures.reordered.0 c.self.invariant

pub returns-clause-rising : goal.returns-clause-rising
returns-clause-rising c =
    let keyed : IsKeyed c.sort_keys.new.self.entries =
    All-permutation IsOwn c.self.inside.found.entries c.sort_keys.new.self.entries c.sort_keys.ensures.reordered.0 c.self.invariant in
    grind (arith, keyed, (rising c.sort_keys.new.self.entries))

pub returns-clause-same : goal.returns-clause-same
returns-clause-same c =
    let keyed : IsKeyed c.sort_keys.new.self.entries =
    All-permutation IsOwn c.self.inside.found.entries c.sort_keys.new.self.entries c.sort_keys.ensures.reordered.0 c.self.invariant in
    on_ok c.sort_keys.result _ (λ addr key.
    sym (lookup_is _ addr key (pair_test addr key) c.sort_keys.new.self.entries keyed) ∙ c.sort_keys.ensures.reordered.2 (addr, key)
    ∙ lookup_is _ addr key (pair_test addr key) c.self.inside.found.entries c.self.invariant
    ∙ ap (λ (es : List Entry). entry_at es addr key) c.self.view_is)
