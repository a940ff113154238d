use Rattle.dvg_check.proofs.Common.{◌-◌, ◌≤◌, length, take, AllByRecursion, GoodShape}
use Rattle.dvg_check.proofs.shapes.judge_shapes.Given as goal

abbrev pub invariant-entries : goal.invariant-entries
invariant-entries g l =
    record {
      few : l.index ≤ length l.cert.entries;
      good : AllByRecursion (GoodShape l.mode l.window l.rom l.cert.entries) (take l.index l.cert.entries);
    }

abbrev pub decreases-entries : goal.decreases-entries
decreases-entries g l = length l.list - l.index
