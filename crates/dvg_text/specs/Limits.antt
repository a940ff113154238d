-- The limits of a text, declared once, in `src/limits.rt` (profile).
pub use Rattle.dvg_text.specs.declared.limits.TheConstants.{MOST_MAGNITUDE, LONGEST_LINE, LINE_FEED, SPACE}
