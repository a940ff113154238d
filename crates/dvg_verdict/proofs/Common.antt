-- The names that these proofs share, passed on from one place, the most cited first. Declares nothing.
pub use Rattle.dvg_check.proofs.Common.{List, length, sym, ap, refl, ◌≡◌, ◌∙◌, ℕ, arith, Rom, IsRomLength, rom_on, Window, GoodFrame, Err, Ok, Result, Certificate}
pub use Rattle.dvg_text.proofs.Common.{Spells, ReadAnswer}
