-- The names that these proofs share, passed on from one place, the most cited first. Declares nothing.
pub use Rattle.std.proofs.Common.{◌≢◌, ◌++◌, map, take, drop, Option, None, true, false, sym, append_assoc, not, cond, one-add, length-append, ◌-◌}
pub use Rattle.std.specs.List.{All, slice_split, position_or_len, onto_first, filter}
pub use Rattle.std.proofs.lemmas.List.{take_all, take-append-drop, take_rest}
pub use Rattle.std.specs.Prelude.{Contains, IfSome}
pub use Rattle.std.proofs.lemmas.Grind.{common_steps}
pub use Rattle.dvg_words.proofs.Common.{◌≡◌, ℕ, suc, ◌+◌, ◌<◌, ◌≤◌, List, [], ◌∷◌, length, get_or, Some, refl, ap, subst, arith, rules, zero, Bool, ◌∙◌}
pub use Rattle.dvg_labels.specs.Labels.{Named, named_of, Label, may_name, Names, IsNearest, StandsAt, StandsAtTwo, IsFound, IsAddress, Labelling}
pub use Rattle.dvg_labels.specs.Cutting.{words, is_blank, has_bytes, first_of, lines, lines_behind}
pub use Rattle.dvg_labels.specs.Reading.{no_labels, with_line, with_lines, left}
pub use Rattle.dvg_labels.specs.Grammar.{number_behind, MOST_VALUE}
