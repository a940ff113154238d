use Rattle.dvg_cert.proofs.Common.{◌∙◌, sym, arith, rules, stands_before}
use Rattle.std.proofs.lemmas.List.Sorted.{IsPartitionPoint-from_clause}
use Rattle.dvg_cert.proofs.Searching.{parted, nothing_there, other_there, this_there}
use Rattle.dvg_cert.proofs.lookup.find_in.Goals as goal

pub returns-then-at-entries : goal.returns-then-at-entries
returns-then-at-entries c =
    let point = IsPartitionPoint-from_clause (stands_before c.args.addr c.args.key) _ _ c.partition_point-at.ensures.partitioned
    (parted c.args.entries.now c.args.addr c.args.key c.requires) (λ a r q k. search rules) in
    nothing_there c.args.entries.now c.args.addr c.args.key c.partition_point-at.result c.requires c.if-at-entries.true point

pub returns-then-is_at : goal.returns-then-is_at
returns-then-is_at c =
    this_there c.args.entries.now c.args.addr c.args.key c.partition_point-at.result _ c.requires
    (omega (arith, c.partition_point-at.ensures.bound)) (search rules)

pub returns-else-is_at : goal.returns-else-is_at
returns-else-is_at c =
    let point = IsPartitionPoint-from_clause (stands_before c.args.addr c.args.key) _ _ c.partition_point-at.ensures.partitioned
    (parted c.args.entries.now c.args.addr c.args.key c.requires) (λ a r q k. search rules) in
    other_there c.args.entries.now c.args.addr c.args.key c.partition_point-at.result _ c.requires
    (omega (arith, c.partition_point-at.ensures.bound)) point (sym c.is_at.ensures ∙ c.if-is_at.false)
