-- What is good with exact counts is good with bounds.
use Rattle.dvg_check.proofs.Common.{List, Rom, Window, Entry, LitBox, IsInside, Good, Mode, Bound, arith, refl}
use Rattle.dvg_check.proofs.Runs.{counts_same}
use Rattle.dvg_check.proofs.TailLaws.{good_less}

inside_itself : (box : LitBox) → IsInside box box
inside_itself box = grind (arith)

pub in_bound : (w : Window) (rom : Rom) (list : List Entry) (mode : Mode) → Good mode w rom list → Good Bound w rom list
in_bound w rom list mode good e c =
    grind (
      arith,
      (good_less mode Bound w rom list e e tt
          (record {
            addr = refl;
            key = refl;
            stop = refl;
            lit = inside_itself e.lit;
            depth = counts_same mode e.depth e.depth refl;
            words =
                counts_same mode e.words e.words refl;
            scale = refl;
          }) (good e c)),
      (inside_itself e.lit),
      (counts_same mode e.depth e.depth refl),
      (counts_same mode e.words e.words refl),
    )
