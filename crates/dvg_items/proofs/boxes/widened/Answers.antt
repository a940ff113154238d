use Rattle.dvg_items.proofs.LeastBoxes.{in_wider}
use Rattle.dvg_items.proofs.Lists.{all_map}
use Rattle.dvg_items.proofs.boxes.widened.Goals as goal

pub returns : goal.returns
returns c ps h =
    let span = c.spanning.ensures in
    let join = c.joined.ensures in
    record {
      holds = (
        in_wider _ _ _ join.second span.first,
        (in_wider _ _ _ join.second span.second, all_map _ _ ps (λ x. in_wider _ _ x join.first) h.holds),
      );
      least = λ other k. join.least other (h.least other k.1.1) (span.least other k.0 k.1.0);
    }
