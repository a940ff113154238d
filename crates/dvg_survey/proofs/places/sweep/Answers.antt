use Rattle.std.proofs.lemmas.List.{take_all}
use Rattle.dvg_survey.proofs.Common.{◌∙◌, ap, List, Entry, IsSwept, subst, listed_claim, arith, Contains-get_or}
use Rattle.dvg_survey.proofs.Sweeping.{kept_on, marked_on}
use Rattle.dvg_survey.proofs.places.sweep.Goals.{then-is_clean+in_ok-push, else-is_clean}
use Rattle.dvg_survey.proofs.places.sweep.Goals as goal

pub is_clean-requires : goal.is_clean-requires
is_clean-requires g c = record {
  entry = listed_claim (g.E.Entries.list c.args.entries.now) _ c.requires.entries
      (c.requires.swept _ (Contains-get_or c.args.swept.now c.loop-entry.entry-index _ c.loop-entry-test.true));
}

pub add-requires-clause-at : goal.add-requires-clause-at
add-requires-clause-at g c =
    (listed_claim (g.E.Entries.list c.args.entries.now) _ c.requires.entries
    (c.requires.swept _ (Contains-get_or c.args.swept.now c.loop-entry.entry-index _ c.loop-entry-test.true))).addr

pub add-requires-clause-key : goal.add-requires-clause-key
add-requires-clause-key g c =
    (listed_claim (g.E.Entries.list c.args.entries.now) _ c.requires.entries
    (c.requires.swept _ (Contains-get_or c.args.swept.now c.loop-entry.entry-index _ c.loop-entry-test.true))).key

pub loop-entry-preserved : goal.loop-entry-preserved
loop-entry-preserved g c =
    elim c.if-is_clean.branch [
      | then-is_clean+in_ok-push w ↦
          kept_on c.args.window.now c.args.rom.now (g.E.Entries.list c.args.entries.now) c.args.swept.now c.loop-entry.left.items
          c.if-is_clean.left.items c.args.broken.now c.loop-entry.broken c.if-is_clean.broken c.loop-entry.entry-index _
          c.loop-entry-test.true c.loop-entry.invariant
          (ap (λ v. v.items) w.left-is ∙ w.in_ok-push.ensures.items) w.broken-is (c.is_clean.ensures.clean w.if-is_clean.true)
      | else-is_clean w ↦
          marked_on c.args.window.now c.args.rom.now (g.E.Entries.list c.args.entries.now) c.args.swept.now c.loop-entry.left.items
          c.if-is_clean.left.items c.args.broken.now c.loop-entry.broken c.if-is_clean.broken c.loop-entry.entry-index _
          c.loop-entry-test.true c.loop-entry.invariant
          c.requires.entries c.requires.swept (ap (λ v. v.items) w.left-is) (w.broken-is ∙ w.add.ensures.value)
          (rw w.broken-is w.add.ensures.there) (c.is_clean.ensures.faulty w.if-is_clean.false)
    ]

pub returns : goal.returns
returns g c =
    subst (λ (l : List Entry). IsSwept c.args.window.now c.args.rom.now (g.E.Entries.list c.args.entries.now) l c.loop-entry.left.items
    c.args.broken.now c.loop-entry.broken)
    (take_all c.loop-entry.entry-index c.args.swept.now (omega (arith, c.loop-entry-test.false))) c.loop-entry.invariant
