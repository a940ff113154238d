use Rattle.dvg_survey.proofs.Common.{◌≡◌, ◌∙◌, ℕ, Some, None, Option, sym, ap, subst, rules, Rom, rom_word, cell_at, Holds, Kind, Shape, next_address}
use Rattle.dvg_items.specs.Iterating.{StandsNone}
use Rattle.dvg_survey.proofs.Touching.{Passed, goes_on, ends, none_left}
use Rattle.dvg_survey.proofs.touched.first_differing.Goals as goal

pub returns-in_err-at-clause-none : goal.returns-in_err-at-clause-none
returns-in_err-at-clause-none c =
    let s = c.in-Some.ensures.steps in
    let i = c.in-Some.item in
    let inv = c.loop-item.invariant in
    let both : Some c.loop-item.at ≡ Some i.at = sym inv.here ∙ s.0.0 in
    let here : c.loop-item.at ≡ i.at = cc both in
    let is = subst (λ (r : Rom). cell_at (rom_word r) i.at ≡ Holds i.format i.instr) inv.words s.0.1 in
    let last : next_address Shape i ≡ None = sym c.next_address.ensures ∙ c.in_err-at.was in
    let none = ends c.args.rom.now c.args.other.now c.args.addr i.at
    (subst (Passed c.args.rom.now c.args.other.now c.args.addr) here inv.passed) c.in_default.ensures.none i.format i.instr is last in
    search rules

pub loop-item-preserved : goal.loop-item-preserved
loop-item-preserved c =
    let s = c.in-Some.ensures.steps in
    let i = c.in-Some.item in
    let inv = c.loop-item.invariant in
    let both : Some c.loop-item.at ≡ Some i.at = sym inv.here ∙ s.0.0 in
    let here : c.loop-item.at ≡ i.at = cc both in
    let is = subst (λ (r : Rom). cell_at (rom_word r) i.at ≡ Holds i.format i.instr) inv.words s.0.1 in
    let next : next_address Shape i ≡ Some c.in_ok-at.at = sym c.next_address.ensures ∙ c.in_ok-at.was in
    record {
      here = s.0.3 ∙ ap (λ (k : Kind). next_address k i) inv.kind ∙ next;
      kind = s.1 ∙ inv.kind;
      words = search rules;
      passed = goes_on c.args.rom.now c.args.other.now c.args.addr i.at
          (subst (Passed c.args.rom.now c.args.other.now c.args.addr) here inv.passed) c.in_default.ensures.none i.format i.instr
          c.in_ok-at.at is next;
    }

pub returns-clause-none : goal.returns-clause-none
returns-clause-none c =
    let s = c.in-None.ensures.steps in
    let inv = c.loop-item.invariant in
    let here = subst (λ (o : Option ℕ). StandsNone (rom_word c.loop-item.item-iterator.words.now) o) inv.here s.0.0 in
    let nothing = subst (λ (r : Rom). StandsNone (rom_word r) (Some c.loop-item.at)) inv.words here in
    none_left c.args.rom.now c.args.other.now c.args.addr c.loop-item.at inv.passed nothing c.differing_at-2.result c.differing_at-2.ensures.none
