use Rattle.dvg_recipe.proofs.Common.{◌≡◌, ◌+◌, ℕ, get_or, subst, sym, arith}
use Rattle.dvg_recipe.specs.Recipes.{Piece}
use Rattle.dvg_recipe.specs.Private.Indices.{PieceLeads}
use Rattle.dvg_recipe.proofs.PastParts.{row_next, row_last, row_front}
use Rattle.dvg_recipe.proofs.belonging.row_end.Goals as goal

pub returns-then-not-taken-clause-none : goal.returns-then-not-taken-clause-none
returns-then-not-taken-clause-none c j leads =
    let row = c.args.row.now in
    let items = c.args.places.now in
    let n = c.loop-piece.piece-index in
    let piece = c.piece-item.result in
    let front = row_front (n + 1) row items c.args.index j leads in
    let last = row_last row items n (n + 1) piece (omega arith) c.loop-piece-test.true c.args.index front.0 front.1 in
    c.in_ok-taken.ensures.no c.if-not-taken.true front.0
    (subst (λ (p : Piece). PieceLeads p items c.loop-piece.end front.0) (sym c.piece-item.is)
    (subst (λ e. PieceLeads (get_or row n piece) items e front.0) (c.loop-piece.invariant.1 last.0 last.1) last.2))

pub loop-piece-preserved : goal.loop-piece-preserved
loop-piece-preserved c =
    let row = c.args.row.now in
    let items = c.args.places.now in
    let n = c.loop-piece.piece-index in
    let end = c.loop-piece.end in
    let piece = c.piece-item.result in (
      row_next row items n (n + 1) piece (omega arith) c.loop-piece-test.true c.args.index end (end + 1) c.loop-piece.invariant.0
          (subst (λ (p : Piece). PieceLeads p items end (end + 1)) c.piece-item.is (c.in_ok-taken.ensures.yes c.if-not-taken.false)),
      λ j leads.
          let last = row_last row items n (n + 1) piece (omega arith) c.loop-piece-test.true c.args.index j leads in
          omega (arith, last.2.next, c.loop-piece.invariant.1 last.0 last.1),
    )
