use Rattle.dvg_check.proofs.Common.{◌≤◌, ◌<◌, length, get_or, ℕ, ADDRESS_END, Entry, GoodShape, AreTails}
use Rattle.dvg_check.proofs.tails.first_doubtful.Given as goal

-- the entries from here on, up to the first that is doubtful so far, are good
abbrev pub invariant-entries : goal.invariant-entries
invariant-entries g l = record {
  near : l.at ≤ ADDRESS_END;
  before : l.left ≤ length l.list;
  few : l.doubtful ≤ length l.list;
  tails : AreTails l.window l.rom (g.E.Entries.list l.entries) l.tails;
  good : (k : ℕ) (past : Entry) → l.left ≤ k → k < l.doubtful
      → GoodShape l.mode l.window l.rom (g.E.Entries.list l.entries) (get_or l.list k past);
}

abbrev pub decreases-entries : goal.decreases-entries
decreases-entries g l = l.left
