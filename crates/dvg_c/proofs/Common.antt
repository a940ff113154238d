-- The names that these proofs share, passed on from one place, the most cited first. Declares nothing.
pub use Rattle.std.specs.List.{concat}
pub use Rattle.std.proofs.Common.{sum}
pub use Rattle.dvg_cmd.proofs.Common.{◌≡◌, ℕ, suc, ◌+◌, ◌<◌, List, [], ◌∷◌, ◌++◌, length, take, drop, get_or, refl, sym, ap, ◌∙◌, arith, append-nil, append_assoc, take-suc, take-append-drop, MemoryMap, ◌≤◌, Option, Result, Ok, Err, IsMap, WritesMade, MakesForFrames, FramesFaultMeans, common_steps, Some, subst, rules}
pub use Rattle.dvg_cmd.proofs.SeveralFrames.{of_each_append}
pub use Rattle.dvg_spelling.specs.Each.{of_each}
pub use Rattle.dvg_c.specs.Told.{machine_of, numbered}
pub use Rattle.dvg_c.specs.Making.{MakeVerdict, RunVerdict, root_of}
pub use Rattle.dvg_cert.specs.declared.entry.Key.{Key}
pub use Rattle.dvg_words.specs.declared.machine.Machine.{Machine}
pub use Rattle.dvg_c.specs.Texts.{IsPut}
