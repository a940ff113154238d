-- The names that these proofs share, passed on from one place. Declares nothing.
pub use Rattle.dvg_cmd.proofs.Common.{◌≡◌, refl, sym, ap, ◌∙◌, subst, ℕ, ◌+◌, ◌<◌, ◌≤◌, ◌-◌, suc, List, [], ◌∷◌, ◌++◌, length, take, Option, None, Some, arith, rules, common_steps, append_assoc, append-nil, Consumes, IsAtEnd, Consumes-trans, Appends, AppendsPrefix, Appends-trans, joined, TakeOneWriteEach, Outcome, worse, OnErr, OnOk, IfOk, IfErr, Result, Ok, Err}
pub use Rattle.std.proofs.KnownBytes.{Appends-nil}
