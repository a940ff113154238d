use Rattle.dvg_make.proofs.Common.{◌∙◌, List, sym, subst, PartialEntry, IsMaking, All, IsOwnPartial, insert_entry-new, All-push, refl, arith}
use Rattle.dvg_make.proofs.Stacks.{none_found, values_push}
use Rattle.dvg_make.proofs.stack.Stack.push.Goals as goal

pub invariant_of-self-2 : goal.invariant_of-self-2
invariant_of-self-2 c =
    let none = none_found c.args.partial.addr c.args.partial.key c.self.inside.by_key.entries c.self.invariant
    (λ m. c.requires (subst (λ (s : List PartialEntry). IsMaking s c.args.partial.addr c.args.partial.key) c.self.view_is m)) in
    subst (All IsOwnPartial) (sym (c.in_ok-insert.ensures.entries
    ∙ insert_entry-new _ c.self.inside.by_key (c.args.partial.addr, c.args.partial.key) c.args.partial none))
    (All-push IsOwnPartial c.self.inside.by_key.entries ((c.args.partial.addr, c.args.partial.key), c.args.partial) c.self.invariant
    refl)

pub returns-clause-ok : goal.returns-clause-ok
returns-clause-ok c = grind (arith, (none_found c.args.partial.addr c.args.partial.key), insert_entry-new, values_push)
