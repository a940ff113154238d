use Rattle.std.proofs.Common.{rules}
use Rattle.dvg_clocks.proofs.Common.{◌≡◌, sym, subst, arith, Entry}
use Rattle.std.specs.Prelude.{IsPermutation}
use Rattle.std.specs.List.Sorted.{IsNonDecreasingBy}
use Rattle.std.proofs.lemmas.List.Sorted.{IsNonDecreasingBy-from_sort_by_key}
use Rattle.dvg_check.proofs.Common.{listed_claim, IsSomeCertificate}
use Rattle.dvg_clocks.proofs.Telling.{begins, here, walkable, onward, ends}
use Rattle.dvg_clocks.proofs.shapes.ShapeClocks.of_all.Goals as goal

pub loop-entry-init : goal.loop-entry-init
loop-entry-init g c =
    let list = c.args.list.now in
    let order = c.deref-entry-items.result.now in
    let is : c.in_ok-rising.rising.items ≡ list = search rules in
    let moves : IsPermutation list order =
    subst (λ l. IsPermutation l order) is
    (subst (λ l. IsPermutation c.in_ok-rising.rising.items l) (sym c.deref-entry-items.ensures.value)
    c.sort_by_key.ensures.permutation) in
    let rising : IsNonDecreasingBy (λ (e : Entry). e.words) order =
    subst (λ l. IsNonDecreasingBy (λ (e : Entry). e.words) l) (sym c.deref-entry-items.ensures.value)
    (IsNonDecreasingBy-from_sort_by_key (λ (e : Entry). e.words) c.sort_by_key.new.self.items c.in_ok-sort_by_key.ensures.sorted
    (λ a r f called. search rules)) in
    rw c.new-shapes.ensures (begins c.args.states.now c.args.rom.now list order moves rising)

pub items_clocks-requires-clause-key : goal.items_clocks-requires-clause-key
items_clocks-requires-clause-key g c =
    let certificate : IsSomeCertificate c.args.list.now = rw c.requires.list at c.requires.entries in
    (listed_claim c.args.list.now _ certificate
    (here c.args.states.now c.args.rom.now c.args.list.now c.deref-entry-items.result.now certificate c.requires.good
    c.loop-entry.entry-index c.loop-entry.shapes c.loop-entry.invariant _ c.loop-entry-test.true)).key

pub items_clocks-requires-clause-walkable : goal.items_clocks-requires-clause-walkable
items_clocks-requires-clause-walkable g c =
    let certificate : IsSomeCertificate c.args.list.now = rw c.requires.list at c.requires.entries in
    rw c.requires.list (walkable c.args.states.now c.args.rom.now c.args.list.now c.deref-entry-items.result.now certificate
    c.requires.good _ (here c.args.states.now c.args.rom.now c.args.list.now c.deref-entry-items.result.now certificate
    c.requires.good c.loop-entry.entry-index c.loop-entry.shapes c.loop-entry.invariant _ c.loop-entry-test.true))

pub loop-entry-preserved : goal.loop-entry-preserved
loop-entry-preserved g c =
    let certificate : IsSomeCertificate c.args.list.now = rw c.requires.list at c.requires.entries in
    onward c.args.states.now c.args.rom.now c.args.list.now c.deref-entry-items.result.now certificate c.requires.good
    c.loop-entry.entry-index c.loop-entry.shapes c.loop-entry.invariant _ c.loop-entry-test.true c.in-Ok.clocks _
    (rw c.requires.list at c.in-Ok.ensures.ok) _ c.in_ok-add-in-Ok.ensures

pub returns : goal.returns
returns g c =
    ends c.args.states.now c.args.rom.now c.args.list.now c.deref-entry-items.result.now c.loop-entry.shapes c.loop-entry.entry-index
    (omega (arith, c.loop-entry-test.false)) c.loop-entry.invariant
