-- Definitions for the code alone; no rule uses them.
pub mod Partial
pub mod Stacked
pub mod Making
pub mod Covering
pub mod Framing
pub mod Judged
