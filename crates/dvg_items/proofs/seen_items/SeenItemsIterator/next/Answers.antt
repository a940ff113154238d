use Rattle.std.proofs.Common.{ap}
use Rattle.std.proofs.iter.Next.{gave_Under}
use Rattle.dvg_items.proofs.Near.{fewer_left}
use Rattle.dvg_items.proofs.seen_items.SeenItemsIterator.next.Goals as goal

pub returns-clause-goes : goal.returns-clause-goes
returns-clause-goes g c =
    gave_Under c.step-self.ensures.sound (λ h. (
      tt,
      fewer_left c.args.self.now.kind c.see_by-seen.result _ _ _ c.in-Onward.is c.step-self.ensures.value
          (ap (λ v. v.item.at) c.see_by-seen.ensures.value) c.see_by-seen.ensures.sound.at,
    ))
