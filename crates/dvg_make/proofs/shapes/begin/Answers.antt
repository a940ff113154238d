use Rattle.dvg_make.proofs.Common.{rules}
use Rattle.dvg_make.proofs.shapes.begin.Goals as goal

pub returns-in-Some-clause-err : goal.returns-in-Some-clause-err
returns-in-Some-clause-err c = search rules

pub returns-then-len-ge-MOST_ENTRIES-clause-err : goal.returns-then-len-ge-MOST_ENTRIES-clause-err
returns-then-len-ge-MOST_ENTRIES-clause-err c = search rules

pub push-requires : goal.push-requires
push-requires c = search rules

pub returns-clause-ok : goal.returns-clause-ok
returns-clause-ok c = search rules
