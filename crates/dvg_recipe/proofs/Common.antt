-- The names that these proofs share, passed on from one place, the most cited first. Declares nothing.
pub use Rattle.std.specs.Prelude.{Bool, false, get_or, IsTrue, IfSome, IfOk, Contains, slice_get, ◌↔◌, reverse, insert}
pub use Rattle.std.proofs.Common.{⊎_elim, inl, inr, ◌⊎◌, ◌-◌, take, drop, append-nil}
pub use Rattle.std.proofs.lemmas.List.{reverse-append, take-append-drop, take_all}
pub use Rattle.std.proofs.lemmas.List.Elements.{Contains-append_cases, Contains-append_left, Contains-append_right, Contains-push_cases, Contains-get_or}
pub use Rattle.std.proofs.lemmas.Bool.{cases_lt}
pub use Rattle.std.proofs.Math.Seq.{take-suc}
pub use Rattle.dvg_items.proofs.Common.{List, length, refl, sym, arith, ap, Some, None, Option, subst, ◌≡◌, ◌<◌, ◌≤◌, ◌+◌, ◌∷◌, ◌++◌, ◌∙◌, ℕ, [], suc, zero, rules, common_steps, nat_tests, LeadsTo, next_address}
unfoldable pub use Rattle.dvg_items.proofs.Common.{cell_at}
