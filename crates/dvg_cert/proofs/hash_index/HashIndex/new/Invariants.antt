use Rattle.dvg_cert.proofs.Common.{◌≡◌, take, own_keys}
use Rattle.dvg_cert.proofs.hash_index.HashIndex.new.Given as goal

abbrev pub invariant-loop-entry : goal.invariant-loop-entry
invariant-loop-entry l = l.keys.keys ≡ own_keys (take l.entry-index l.entries)
