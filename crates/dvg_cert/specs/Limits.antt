-- The limits of a certificate, declared once, in `src/limits.rt` (profile), and the end of word addresses.
pub use Rattle.dvg_cert.specs.declared.limits.TheConstants.{MOST_ENTRIES, MOST_DEPTH, MOST_WORDS, MOST_NUMBER}
pub use Rattle.dvg_words.specs.declared.map.TheConstants.{ADDRESS_END}
