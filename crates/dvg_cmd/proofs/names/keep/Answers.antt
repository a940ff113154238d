use Rattle.dvg_cmd.proofs.Common.{◌++◌, [], ◌∷◌, ◌∙◌, sym, arith, common_steps, take_all, take-append-le, MOST_NAME_READ}
use Rattle.dvg_cmd.proofs.names.keep.Goals as goal

pub returns-then-not-is_full : goal.returns-then-not-is_full
returns-then-not-is_full c =
    let name = c.args.name.now.items in
    c.push.ensures.items ∙ sym (take_all MOST_NAME_READ (name ++ c.args.byte ∷ []) (grind (arith, common_steps)))

pub returns-else-not-is_full : goal.returns-else-not-is_full
returns-else-not-is_full c =
    let name = c.args.name.now.items in
    sym (take-append-le MOST_NAME_READ name (c.args.byte ∷ []) (grind (arith, common_steps))
    ∙ take_all MOST_NAME_READ name (grind (arith, common_steps)))
