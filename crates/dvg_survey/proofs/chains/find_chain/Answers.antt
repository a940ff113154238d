use Rattle.std.proofs.lemmas.Option.{slice_get_cases}
use Rattle.dvg_survey.proofs.Common.{arith, length, ◌≡◌, ap, sym, ◌∙◌, true, false}
use Rattle.dvg_survey.proofs.SameEntry.{entry_decides}
use Rattle.dvg_survey.proofs.Complete.{begun, gone_on, no_chain, reached_claim}
use Rattle.dvg_survey.proofs.chains.find_chain.Goals as goal
use Rattle.dvg_survey.proofs.Common.{slice_get_within}

pub loop-next-init : goal.loop-next-init
loop-next-init g c =
    begun c.args.rom.now c.args.frame.now c.args.cert.now.entries c.args.goal.now c.in_ok-reached.reached c.in_ok-visited.visited
    (rw (c.machine.ensures, c.requires) at c.in_ok-reached.ensures) c.in_ok-visited.ensures

pub reach_from-requires-clause-entry : goal.reach_from-requires-clause-entry
reach_from-requires-clause-entry g c =
    grind (
      arith,
      (reached_claim c.args.rom.now c.args.frame.now c.args.cert.now.entries c.args.goal.now _ _ _ c.loop-next.next
          c.in-Some.link (c.args.cert.now.map, c.entries-listed.ensures.certificate) c.loop-next.invariant (sym c.get.ensures ∙ c.in-Some.is)),
    )

pub loop-next-preserved : goal.loop-next-preserved
loop-next-preserved g c =
    let other : c.in-Some.link.call.entry ≡ c.args.goal.now → ⊥ =
    λ e. let no : true ≡ false =
    sym ((entry_decides c.in-Some.link.call.entry c.args.goal.now).1 e) ∙ sym c.eq.ensures ∙ c.if-eq.false in cc no in
    gone_on c.args.rom.now c.args.frame.now c.args.cert.now.entries c.args.goal.now _ _ c.reach_from.new.visited _ c.in-Some.link
    c.reach_from.new.reached c.loop-next.invariant (sym c.get.ensures ∙ c.in-Some.is) other
    (rw c.requires at c.in_ok-reach_from.ensures)

pub returns-in_default-clause-none : goal.returns-in_default-clause-none
returns-in_default-clause-none g c =
    no_chain c.args.rom.now c.args.frame.now c.args.cert.now.entries c.args.goal.now _ _ _ c.loop-next.invariant
    (grind (arith, (slice_get_cases c.loop-next.reached c.loop-next.next), c.get.ensures, c.in_default.not-Some))

pub returns-clause-none : goal.returns-clause-none
returns-clause-none g c =
    no_chain c.args.rom.now c.args.frame.now c.args.cert.now.entries c.args.goal.now _ _ _ c.loop-next.invariant
    (omega (arith, c.loop-next-test.false, ap length c.entries-listed.ensures.value, c.loop-next.invariant.sound.counted))

pub chain-requires-clause-last : goal.chain-requires-clause-last
chain-requires-clause-last g c = grind (arith, entry_decides, slice_get_within)

pub returns-then-eq-clause-some : goal.returns-then-eq-clause-some
returns-then-eq-clause-some g c = grind (arith, entry_decides, slice_get_within)
