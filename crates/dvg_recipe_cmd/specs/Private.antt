-- Definitions for the code alone; no clause of a public call uses them.
pub mod Judging
