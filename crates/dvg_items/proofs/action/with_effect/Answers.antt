use Rattle.dvg_items.proofs.Common.{arith}
use Rattle.dvg_words.specs.declared.map.TheConstants.{ADDRESS_END}
use Rattle.dvg_items.specs.Bounds.{ITEM_REACH}
use Rattle.dvg_items.proofs.Reached.{place_more}
use Rattle.dvg_items.proofs.action.with_effect.Goals as goal

pub place_past-requires-clause-place : goal.place_past-requires-clause-place
place_past-requires-clause-place c =
    place_more ITEM_REACH c.args.here.now.at ADDRESS_END c.args.here.now.known.place (omega (arith, c.requires.near)) c.requires.here.place

pub returns-clause-near_place : goal.returns-clause-near_place
returns-clause-near_place c = c.place_past.ensures.near c.args.here.now.at c.requires.here.place
