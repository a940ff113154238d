-- The names that these proofs share, passed on from one place, the most cited first. Declares nothing.
pub use Rattle.std.specs.Prelude.{ℤ, ◌&&◌, if◌then◌else◌, ◌+ℤ◌, max, fold}
pub use Rattle.std.proofs.Common.{⊎_elim, w64, to_z, of_z}
pub use Rattle.std.proofs.lemmas.Int.{clamps}
pub use mir.Val.{SFits}
pub use Rattle.dvg_cert.proofs.Common.{List, length, refl, sym, arith, ap, Some, None, subst, ◌≡◌, ◌<◌, ◌∷◌, ◌∙◌, ℕ, [], Option, Bool, false, true, suc, rules, common_steps, nat_tests, Contains, IfSome, ◌==◌, same_key, entry_at, zero, ◌++◌, AllByRecursion, ◌+◌, ◌≤◌}
pub use Rattle.dvg_words.proofs.Common.{◌≤ℤ◌, ints, to_z-of_z}
unfoldable pub use Rattle.dvg_words.proofs.Common.{cell_at}
pub use Rattle.dvg_items.specs.Items.{Item, Kind, LeadsTo, next_address, AtEveryPlace, AtEachOf, address_after}
pub use Rattle.dvg_cert.specs.Entry.{IsClaim}
pub use Rattle.dvg_items.specs.Bounds.{IsSomeCertificate, IsNear, IsNearPlace, IsSoundCursor, IsSoundSeen}
pub use Rattle.dvg_cert.specs.declared.entry.End.TheVariants.{Rel, Abs, Lost}
pub use Rattle.dvg_items.specs.Known.{callee_at, Effect, first_place, place_moved_by, place_past, Known}
pub use Rattle.dvg_words.specs.Beam.{shift, origin}
pub use Rattle.dvg_words.specs.declared.beam.Point.{Point}
pub use Rattle.dvg_cert.specs.declared.entry.End.{End}
pub use Rattle.dvg_items.specs.Seen.{Seen}
pub use Rattle.dvg_cert.specs.declared.entry.LitBox.TheVariants.{Span}
pub use Rattle.dvg_words.specs.Decoding.{word_count, InstrFits}
