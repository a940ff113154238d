-- Definitions for the code alone; no rule uses them.
pub mod Judging
pub mod Breaking
pub mod Tails
