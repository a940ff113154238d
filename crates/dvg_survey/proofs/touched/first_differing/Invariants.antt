use Rattle.dvg_survey.proofs.Common.{◌≡◌, Some, Shape}
use Rattle.dvg_survey.proofs.Touching.{Passed}
use Rattle.dvg_survey.proofs.touched.first_differing.Given as goal

abbrev pub invariant-loop-item : goal.invariant-loop-item
invariant-loop-item l = record {
  here : l.item-iterator.here ≡ Some l.at;
  kind : l.item-iterator.kind ≡ Shape;
  words : l.item-iterator.words.now ≡ l.rom;
  passed : Passed l.rom l.other l.addr l.at;
}
