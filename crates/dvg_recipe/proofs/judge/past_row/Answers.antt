use Rattle.dvg_recipe.proofs.Common.{◌+◌, List, arith, subst, sym, Contains-get_or}
use Rattle.dvg_recipe.specs.Limits.{PieceFits}
use Rattle.dvg_recipe.specs.Recipes.{Piece}
use Rattle.dvg_recipe.specs.Private.Hulls.{Hull, LeadOn}
use Rattle.dvg_recipe.specs.Private.Judging.{IsTaken}
use Rattle.dvg_recipe.proofs.Onward.{row_next}
use Rattle.dvg_recipe.proofs.judge.past_row.Goals as goal

pub past_piece-requires : goal.past_piece-requires
past_piece-requires g c = record {
  fits = subst (λ (p : Piece). PieceFits p.kind) (sym c.piece-item.is)
      (c.requires.fits.each _ (Contains-get_or c.args.row.now c.loop-piece.piece-index c.piece-item.result c.loop-piece-test.true));
}

pub loop-piece-preserved : goal.loop-piece-preserved
loop-piece-preserved g c =
    let w = c.args.asked.now.window in
    let list = g.E.Entries.list c.args.entries.now in
    let budget = c.args.asked.now.budget in
    let next = c.in_ok-here.here.items in
    λ fine. let on = c.in_ok-here.ensures.leads fine in
    let before = c.loop-piece.invariant on.0 in
    let here : LeadOn w list budget (IsTaken c.piece-item.result.kind) c.loop-piece.here.items next =
    subst (λ (l : List Hull). LeadOn w list budget (IsTaken c.piece-item.result.kind) l next) c.deref.ensures.value on.1 in (
      before.0,
      row_next w list budget c.args.row.now c.loop-piece.piece-index (c.loop-piece.piece-index + 1) c.piece-item.result
          c.args.here.items c.loop-piece.here.items next (omega arith) c.loop-piece-test.true before.1
          (subst (λ (p : Piece). LeadOn w list budget (IsTaken p.kind) c.loop-piece.here.items next) c.piece-item.is here),
    )
