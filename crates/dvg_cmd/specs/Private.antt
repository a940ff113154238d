-- Definitions for the code alone; no clause of a public call uses them.
pub mod Inputs
pub mod Judging
pub mod Leading
pub mod Reading
