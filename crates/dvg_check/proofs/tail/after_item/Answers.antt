use Rattle.dvg_check.proofs.Common.{arith, subst, sym, ◌+◌, IsNearPlace, ITEM_REACH, box_more}
use Rattle.dvg_check.proofs.TailSizes.{IsNearPlace-over, IsNearBox-joined}
use Rattle.dvg_check.proofs.tail.after_item.Goals as goal

pub returns-clause-small : goal.returns-clause-small
returns-clause-small c =
    λ n tail. record {
      stop = subst (IsNearPlace (n + 1)) (sym c.stop_over.ensures)
          (IsNearPlace-over n c.args.item.now.stop c.args.tail.now.stop c.requires.item.stop tail.stop);
      scale = tail.scale;
      words = omega (arith, c.requires.item.words, tail.words);
      depth = omega (arith, c.max.ensures, c.requires.item.depth, tail.depth);
      lit = IsNearBox-joined (n + 1) _ _ _ (box_more ITEM_REACH 1 (n + 1) _ (omega arith) c.requires.item.lit)
          (c.in_ok-part.ensures.near n tail.lit) c.joined.ensures.first c.joined.ensures.second c.joined.ensures.least;
    }
