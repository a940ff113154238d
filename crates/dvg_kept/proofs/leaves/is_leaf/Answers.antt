use Rattle.std.proofs.Common.{◌≡◌, sym, ◌∙◌, None}
use Rattle.dvg_items.specs.Known.{target}
use Rattle.dvg_items.specs.declared.item.Kind.TheVariants.{Shape}
use Rattle.dvg_kept.proofs.LeafItems.{onward, done, none_of}
use Rattle.dvg_kept.proofs.leaves.is_leaf.Goals as goal

pub loop-format-preserved : goal.loop-format-preserved
loop-format-preserved c =
    let none : target Shape c.in-Holds.instr ≡ None =
    sym c.target.ensures ∙ none_of c.target.result (sym c.is_some.ensures ∙ c.if-is_some.false) in
    onward c.args.rom.now c.args.addr c.loop-format.at c.loop-format.invariant c.in-Holds.format c.in-Holds.instr
    (sym c.in-Holds.ensures.value) none c.in-Some.next (sym c.next_address.ensures ∙ c.in-Some.is)

pub returns-in-None : goal.returns-in-None
returns-in-None c is_true =
    let none : target Shape c.in-Holds.instr ≡ None =
    sym c.target.ensures ∙ none_of c.target.result (sym c.is_some.ensures ∙ c.if-is_some.false) in
    done c.args.rom.now c.args.addr c.loop-format.at c.loop-format.invariant c.in-Holds.format c.in-Holds.instr
    (sym c.in-Holds.ensures.value) none (sym c.next_address.ensures ∙ c.in-None.is)
