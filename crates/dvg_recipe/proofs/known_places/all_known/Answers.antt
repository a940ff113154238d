use Rattle.dvg_recipe.proofs.Common.{◌+◌, ◌∷◌, ◌∙◌, arith, sym, subst, Contains-get_or}
use Rattle.dvg_words.specs.Memory.{Rom}
use Rattle.dvg_words.specs.Decoding.{InstrFits}
use Rattle.dvg_check.proofs.Common.{IsSoundCursor, Item}
use Rattle.dvg_recipe.specs.Members.{ComesTo}
use Rattle.dvg_recipe.proofs.Knowing.{known_next}
use Rattle.dvg_recipe.proofs.known_places.all_known.Goals as goal

pub known_past-requires-clause-fits : goal.known_past-requires-clause-fits
known_past-requires-clause-fits c =
    subst (λ (i : Item). InstrFits i.instr) (sym c.item-item.is)
    (c.requires.fits _ (Contains-get_or c.args.items.now c.loop-item.item-index c.item-item.result c.loop-item-test.true))

pub loop-item-preserved : goal.loop-item-preserved
loop-item-preserved c =
    let e = c.in_ok-past.ensures in
    let inv = c.loop-item.invariant in
    let n = c.loop-item.item-index in
    let rom = c.args.rom.now in
    let next = c.in_ok-past.past in (
      e.rom ∙ inv.0,
      omega (arith, inv.1),
      known_next rom c.args.items.now n (n + 1) c.item-item.result c.loop-item.known.items c.push-in-loop-item.new.self.items
          c.loop-item.here.known next (omega arith) c.loop-item-test.true inv.2 c.in_ok-push-2.ensures.items
          (λ earlier came. subst (λ (i : Item). ComesTo rom (i ∷ earlier) next) c.item-item.is
          (subst (λ (r : Rom). ComesTo r (c.item-item.result ∷ earlier) next) inv.0
          (e.comes earlier (subst (λ (r : Rom). ComesTo r earlier c.loop-item.here.known) (sym inv.0) came))))
          (subst (λ m. IsSoundCursor (record { at = m; known = next })) (omega (arith, inv.1)) e.sound),
    )

pub returns : goal.returns
returns c = c.loop-item.invariant.2.to
