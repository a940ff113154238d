use Rattle.std.specs.Prelude.{◌+◌, ◌-◌}
use Rattle.dvg_words.specs.declared.map.TheConstants.{ADDRESS_END}
use Rattle.dvg_kept.proofs.LeafItems.{Straight}
use Rattle.dvg_kept.proofs.leaves.is_leaf.Given as goal

abbrev pub invariant-loop-format : goal.invariant-loop-format
invariant-loop-format l = Straight l.rom l.fn.addr l.at

abbrev pub decreases-loop-format : goal.decreases-loop-format
decreases-loop-format l = ADDRESS_END + 2 - l.at
