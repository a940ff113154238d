use Rattle.dvg_recipe.proofs.Common.{◌≡◌, ◌+◌, ℕ, List, Contains, Contains-get_or, arith, subst, sym, take_all}
use Rattle.dvg_check.proofs.Common.{Item, Jsrl}
use Rattle.dvg_words.specs.Decoding.{InstrFits}
use Rattle.dvg_clocks.specs.Kept.{clocks_in}
use Rattle.dvg_recipe.specs.Private.Clocks.{AreAlike, TakeOn}
use Rattle.dvg_recipe.proofs.Leads.{each_next}
use Rattle.dvg_recipe.proofs.Spending.{no_more_on, on_more, on_fewer, on_calls, calls_alike}
use Rattle.dvg_recipe.proofs.clocks.add_calls.Goals as goal

pub add_item-requires : goal.add_item-requires
add_item-requires g c = record {
  fields = subst (λ (j : Item). InstrFits j.instr) (sym c.somewhere-call.ensures)
      (omega (arith, c.requires.fits.each _ (Contains-get_or c.args.targets.now c.loop-to.to-index 0 c.loop-to-test.true)));
}

pub loop-to-preserved : goal.loop-to-preserved
loop-to-preserved g c =
    let here = c.args.here.now in
    let more = c.add_item.new.next in
    let e = c.in_ok-add_item.ensures in (
      each_next (λ to. TakeOn c.args.counting.now.timing.now.states (g.E.Entries.list c.args.counting.now.entries.now)
          (clocks_in c.args.counting.now.shapes.now) (λ i. i.instr ≡ Jsrl to) here more) c.args.targets.now c.loop-to.to-index
          (c.loop-to.to-index + 1) 0 (omega arith) c.loop-to-test.true
          (λ to there. on_more c.args.counting.now.timing.now.states (g.E.Entries.list c.args.counting.now.entries.now)
          (clocks_in c.args.counting.now.shapes.now) (λ i. i.instr ≡ Jsrl to) here c.loop-to.next more e.kept
          (c.loop-to.invariant.0 to there))
          (on_fewer c.args.counting.now.timing.now.states (g.E.Entries.list c.args.counting.now.entries.now)
          (clocks_in c.args.counting.now.shapes.now) (AreAlike c.args.counting.now.timing.now.states c.somewhere-call.result) _ here
          more (λ i is. subst (λ (j : Item). AreAlike c.args.counting.now.timing.now.states j i) (sym c.somewhere-call.ensures)
          (calls_alike c.args.counting.now.timing.now.states _ i _ is)) e.past),
      no_more_on _ _ _ c.loop-to.invariant.1 e.kept,
    )

pub returns-clause-past : goal.returns-clause-past
returns-clause-past g c =
    on_calls c.args.counting.now.timing.now.states (g.E.Entries.list c.args.counting.now.entries.now)
    (clocks_in c.args.counting.now.shapes.now) c.args.targets.now c.args.here.now c.loop-to.next
    (λ to there. c.loop-to.invariant.0 to
    (subst (λ (l : List ℕ). Contains l to) (sym (take_all c.loop-to.to-index c.args.targets.now c.loop-to-test.false)) there))
