-- The names that these proofs share, passed on from one place, the most cited first. Declares nothing.
pub use Rattle.std.proofs.Common.{Bor, codes, string_bytes, append_assoc, append-nil, length-take}
pub use Rattle.std.proofs.lemmas.List.{take_more}
pub use Rattle.dvg_survey.proofs.Common.{◌≡◌, ℕ, List, [], ◌++◌, arith, common_steps, suc, ◌<◌, ◌∷◌, length, take, get_or, rules, take-suc, ◌+◌, ap, ◌∙◌, ◌≢◌, Option, Some, None, refl, sym, subst, Window}
pub use Rattle.dvg_make.proofs.Common.{◌≤◌, ℤ, pos, negsuc, ◌≤ℤ◌, IfNone, ints, ◌*◌}
pub use Rattle.dvg_text.proofs.Common.{decimal, signed_decimal, join_with_byte}
pub use Rattle.dvg_survey.proofs.Common.{w64, to_z-of_z}
pub use Rattle.dvg_check.proofs.Common.{IsWindow}
pub use Rattle.dvg_spelling.specs.Rules.{row_text, rows_text, numbers_below}
pub use Rattle.dvg_spelling.specs.Tally.{refused_text, refused_texts}
