use Rattle.dvg_survey.proofs.Common.{rules, ◌≡◌, length, sym, ◌∙◌}
use Rattle.dvg_survey.proofs.Sweeping.{first_covered, covered_on, told}
use Rattle.dvg_survey.proofs.places.broken_entries.Goals as goal

pub sweeps-init : goal.sweeps-init
sweeps-init g c =
    let is : c.in_ok-swept.swept.items ≡ c.args.list.now = search rules in
    first_covered c.args.window.now c.args.rom.now (g.E.Entries.list c.args.entries.now) c.in_ok-swept.swept.items
    c.sort_by_key.new.self.items c.in_ok-broken.broken (is ∙ sym c.requires.list) c.sort_by_key.ensures.permutation
    c.in_ok-broken.ensures

pub returns-then-len : goal.returns-then-len
returns-then-len g c =
    let same : length c.in_ok-left.left.items ≡ length c.sweeps.swept.items = search rules in
    rw (← c.requires.list) (told c.args.window.now c.args.rom.now (g.E.Entries.list c.args.entries.now) c.sweeps.swept.items
    c.in_ok-left.left.items c.sweeps.broken c.sweep.new.broken c.sweeps.invariant (rw c.deref.ensures.value at c.in_ok-left.ensures)
    same)

pub sweeps-preserved : goal.sweeps-preserved
sweeps-preserved g c =
    covered_on c.args.window.now c.args.rom.now (g.E.Entries.list c.args.entries.now) c.sweeps.swept.items c.in_ok-left.left.items
    c.sweeps.broken c.sweep.new.broken c.sweeps.invariant (rw c.deref.ensures.value at c.in_ok-left.ensures)
