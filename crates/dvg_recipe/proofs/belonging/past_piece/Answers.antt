use Rattle.dvg_recipe.proofs.Common.{◌+◌, ◌∙◌, ◌≡◌, get_or, arith, ap, sym, subst, take}
use Rattle.std.specs.Prelude.{slice_set, ℕ, List}
use Rattle.std.proofs.lemmas.Grind.{get_or_default_zero}
use Rattle.std.proofs.Common.{Vec, Global}
use Rattle.dvg_recipe.specs.Private.Indices.{IsPast, PieceLeads}
use Rattle.dvg_recipe.proofs.PastParts.{put_next, put_none, past_whole}
use Rattle.dvg_recipe.proofs.belonging.past_piece.Goals as goal
use Rattle.dvg_recipe.proofs.belonging.past_piece.Goals.{then-taken, else-taken+in_ok-note}

pub loop-place-preserved : goal.loop-place-preserved
loop-place-preserved c =
    let R = PieceLeads c.args.piece.now c.args.places.now in
    let start = c.args.here.now.items in
    let here = c.loop-place.here.items in
    let place = c.loop-place.place in
    let passed = c.loop-place.passed in
    let known = c.loop-place.invariant in
    let index = c.index-index.result.now in
    let there : index ≡ get_or here place 0 =
    c.index-index.ensures ∙ get_or_default_zero here place index (omega (arith, c.loop-place-test.true, known.1)) in
    elim c.if-taken.branch [
      | then-taken w ↦
          let stored : c.if-taken.here.items ≡ slice_set here passed (index + 1) = ap (λ (v : Vec ℕ Global). v.items) w.here-is in
          put_next R start here place (place + 1) passed (omega arith) (omega (arith, c.loop-place-test.true)) known.0 known.1 known.2 known.3
          index (index + 1) c.if-taken.passed c.if-taken.here.items there (omega (arith, w.passed-is)) stored
          (c.in_ok-taken.ensures.yes w.if-taken.true) (λ j leads. omega (arith, leads.next))
      | else-taken+in_ok-note w ↦
          put_none R start here place (place + 1) passed (omega arith) (omega (arith, c.loop-place-test.true)) known.0 known.1 known.2 known.3
          index c.if-taken.passed c.if-taken.here.items there (omega (arith, w.passed-is))
          (ap (λ (v : Vec ℕ Global). v.items) w.here-is) (c.in_ok-taken.ensures.no w.if-taken.false)
    ]

pub returns : goal.returns
returns c =
    past_whole (PieceLeads c.args.piece.now c.args.places.now) c.args.here.now.items c.truncate.new.self.items c.loop-place.place
    (omega (arith, c.loop-place-test.false))
    (subst (λ (l : List ℕ). IsPast (PieceLeads c.args.piece.now c.args.places.now) (take c.loop-place.place c.args.here.now.items) l)
    (sym c.truncate.ensures.items) c.loop-place.invariant.3)
