use Rattle.dvg_recipe.proofs.Common.{reverse, length, LeadsTo, ◌-◌, ◌+◌, ◌≤◌}
use Rattle.dvg_words.specs.declared.machine.Machine.TheVariants.{Board}
use Rattle.dvg_words.specs.declared.map.TheConstants.{ADDRESS_END}
use Rattle.dvg_words.specs.Memory.{frame_word}
use Rattle.dvg_items.specs.declared.item.Kind.TheVariants.{Frame}
use Rattle.dvg_recipe.specs.Private.KnownPlaces.{AreFramesItems}
use Rattle.dvg_recipe.proofs.frame_items.frame_items.Given as goal

abbrev pub invariant-loop-format : goal.invariant-loop-format
invariant-loop-format l =
    LeadsTo Frame (frame_word Board l.fn.frame) 0 (reverse l.items.items) l.at
    × (length l.items.items ≤ l.at) × AreFramesItems l.items.items

abbrev pub decreases-loop-format : goal.decreases-loop-format
decreases-loop-format l = ADDRESS_END + 2 - l.at
