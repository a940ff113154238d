use Rattle.dvg_make.proofs.Common.{in_bound, Bound, Exact}
use Rattle.dvg_make.proofs.Ends.{in_window, in_exact}
use Rattle.dvg_make.proofs.laws.good_in_window.Goals as goal

pub returns : goal.returns
returns c = λ rom roots list w made. (
  (in_window rom list w Bound, λ all. in_bound w rom list Exact (in_exact rom list w made.each all)),
  (in_window rom list w Exact, in_exact rom list w made.each),
)
