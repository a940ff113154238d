-- The limits of a label file, declared once, in `src/limits.rt` (profile), and of the memory map.
pub use Rattle.dvg_labels.specs.declared.limits.TheConstants.{MOST_BYTES, MOST_LABELS, LONGEST_NAME, LINE_FEED}
pub use Rattle.dvg_words.specs.declared.map.TheConstants.{RAM_WORDS, MEMORY_LAST}
