-- The names that these proofs share, passed on from one place, the most cited first. Declares nothing.
pub use Rattle.std.proofs.Common.{true, false, not, cond, ◌||◌, ◌++◌, take, position, Option, None, is_some, if◌then◌else◌, sym, one-add, drop, add-one, inl, inr, ◌⊎◌, ◌&&◌, ◌-◌}
pub use Rattle.std.specs.Prelude.{nat_lt, IsTrue, IfSome, IfNone, Contains, nat_eq, slice_get, ◌==◌, ◌↔◌}
pub use Rattle.std.specs.List.{list_any, position_or_len, AllByRecursion}
pub use Rattle.std.proofs.lemmas.List.Elements.{All-nil, All-cons, Contains-get_or}
pub use Rattle.std.proofs.lemmas.List.{length-take-le, length_push, get_or_default}
pub use Rattle.std.proofs.lemmas.Grind.{common_steps}
pub use Rattle.dvg_words.proofs.Common.{◌≡◌, ℕ, ◌+◌, ◌<◌, Bool, List, [], ◌∷◌, length, get_or, Some, refl, ap, subst, ◌∙◌, arith, suc, nat_tests, zero, ◌≤◌, MemoryMap, rules, IsMap}
pub use Rattle.dvg_cert.specs.Entry.{Entry, Key, IsEntry, IsClaim, At, Any}
pub use Rattle.dvg_cert.specs.Order.{IsRising, IsCertificate, StandsAfter, Before, KeyBefore}
pub use Rattle.dvg_cert.specs.Lookup.{is_at, entry_at, same_key, IsOnlyAt, HasNoneAt}
pub use Rattle.dvg_cert.specs.Private.Keyed.{own_keys, IsOwn, IsKeyed}
pub use Rattle.dvg_cert.specs.Limits.{MOST_ENTRIES, ADDRESS_END}
pub use Rattle.dvg_cert.specs.Private.Searching.{lower_key, stands_before}
