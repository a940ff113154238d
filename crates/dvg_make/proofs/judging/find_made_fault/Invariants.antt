use Rattle.dvg_make.proofs.Common.{◌-◌, ◌≤◌, length, AllByRecursion, GoodShape, Exact, take}
use Rattle.dvg_make.proofs.judging.find_made_fault.Given as goal

abbrev pub invariant-entries : goal.invariant-entries
invariant-entries l =
    record {
      few : l.index ≤ length l.made.cert.entries;
      good : AllByRecursion (GoodShape Exact l.window l.rom l.made.cert.entries) (take l.index l.made.cert.entries);
    }

abbrev pub decreases-entries : goal.decreases-entries
decreases-entries l = length l.list - l.index
