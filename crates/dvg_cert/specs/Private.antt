-- Definitions for the code alone; no rule uses them.
pub mod Keyed
pub mod Searching
