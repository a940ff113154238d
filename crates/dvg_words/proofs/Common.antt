-- The names that these proofs share, passed on from one place, the most cited first. Declares nothing.
pub use Rattle.std.proofs.Common.{refl, ℕ, arith, ◌≡◌, ◌*◌, ℤ, pos, ◌*ℤ◌, negsuc, neg_ℤ, suc, ◌+◌, ◌/◌, ◌%◌, ◌^◌, ◌≤◌, ◌<◌, nat_le, ◌+ℤ◌, ◌∙◌, subst, zero, length, List, [], ◌∷◌, get_or, slice_get, Some, rules, ap, IsTrue, ◌↔◌, Bool}
pub use Rattle.std.proofs.lemmas.Int.{ints, to_z-of_z}
pub use Rattle.std.proofs.lemmas.Bool.Decides.{nat_tests}
pub use Rattle.std.specs.Prelude.{◌≤ℤ◌}
pub use Rattle.dvg_words.specs.Memory.{Memory, word_at, words_of, rom_on, IsRom, IsRomLength, IsFrame, IsFrameLength}
pub use Rattle.dvg_words.specs.Values.{Profile, DrawFields, Board, Machine, MemoryMap, IsMap, Window}
pub use Rattle.dvg_words.specs.Beam.{Point, factor, effective_scale, axis_move, rounded_move, InWindow}
pub use Rattle.dvg_words.specs.Generator.{State, Status, Step, Reached, after_cell, after_fetch}
pub use Rattle.dvg_words.specs.Example.{Follow, WorkedRun, example_memory, example_run}
unfoldable pub use Rattle.dvg_words.specs.Decoding.{cell_at, instruction_of}
unfoldable pub use Rattle.dvg_words.specs.Beam.{displacement}
unfoldable pub use Rattle.dvg_words.specs.Generator.{next_status}
pub use Rattle.dvg_words.specs.Decoding.{Cell}
