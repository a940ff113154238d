use Rattle.dvg_check.proofs.Common.{length, arith, List, refl, subst, get_or, take, ◌-◌, ◌≤◌, ◌<◌, ℕ, cases_lt, AllByRecursion, Entry, IsTail, GoodShape, get_or_default}
use Rattle.dvg_check.specs.declared.slots.TheConstants.{SLOTS}
use Rattle.dvg_check.proofs.Listed.{no_entry}
use Rattle.dvg_check.proofs.TailRows.{all_take, claim_at, none_kept}
use Rattle.dvg_check.proofs.tails.first_doubtful.Goals as goal
use Rattle.dvg_check.proofs.Common.{common_steps}

-- what holds from an entry on, and of the one before it, holds from that one on
good_below : (P : Entry → Type 0) (list : List Entry) (left most : ℕ) → 0 < left → left ≤ length list → P (get_or list (left - 1) no_entry)
    → ((k : ℕ) (past : Entry) → left ≤ k → k < most → P (get_or list k past)) → (k : ℕ) (past : Entry) → left - 1 ≤ k → k < most
    → P (get_or list k past)
good_below P list left most some few here rest k past le lt = grind (arith, get_or_default, (cases_lt k left))

pub entries-init : goal.entries-init
entries-init g c = grind (arith, (none_kept (IsTail c.args.window.now c.args.rom.now (g.E.Entries.list c.args.entries.now)) SLOTS))

pub entries-preserved : goal.entries-preserved
entries-preserved g c =
    record {
      near = omega (
        arith,
        (claim_at c.args.list.now (c.entries.left - 1) no_entry c.requires.certificate
            (omega (arith, c.entries.invariant.before, c.entries-test.true))).addr,
      );
      before = omega (arith, c.entries.invariant.before);
      few = c.entries.invariant.few;
      tails = c.make_all.ensures;
      good = good_below (GoodShape c.args.mode c.args.window.now c.args.rom.now (g.E.Entries.list c.args.entries.now)) c.args.list.now
          c.entries.left c.entries.doubtful c.entries-test.true c.entries.invariant.before
          (c.if-not-shows.ensures c.args.window.now c.args.rom.now (g.E.Entries.list c.args.entries.now) c.make_all.ensures refl)
          c.entries.invariant.good;
    }

pub returns-clause-good : goal.returns-clause-good
returns-clause-good g c =
    subst (λ (l : List Entry). AllByRecursion (GoodShape c.args.mode c.args.window.now c.args.rom.now l)
    (take c.entries.doubtful c.args.list.now)) c.requires.list
    (all_take (GoodShape c.args.mode c.args.window.now c.args.rom.now (g.E.Entries.list c.args.entries.now)) c.args.list.now
    c.entries.doubtful c.entries.invariant.few
    (λ k past lt. c.entries.invariant.good k past (omega (arith, c.entries-test.false)) lt))

pub entries-preserved-then-not-shows : goal.entries-preserved-then-not-shows
entries-preserved-then-not-shows g c = grind (arith, common_steps)
