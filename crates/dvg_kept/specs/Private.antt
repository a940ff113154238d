-- Definitions for the code and the proofs alone; no rule uses them.
pub mod Marks
pub mod Own
pub mod Leaves
