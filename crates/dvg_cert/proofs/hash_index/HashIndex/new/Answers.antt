use Rattle.dvg_cert.proofs.Common.{arith}
use Rattle.dvg_cert.proofs.Hashing.{added}
use Rattle.dvg_cert.proofs.hash_index.HashIndex.new.Goals as goal
use Rattle.dvg_cert.proofs.Common.{common_steps}

pub loop-entry-preserved : goal.loop-entry-preserved
loop-entry-preserved c = grind (arith, (added c.loop-entry.keys.keys c.entries-entries.result.now c.loop-entry.entry-index))

pub invariant_of-result : goal.invariant_of-result
invariant_of-result c = grind (arith, common_steps)
