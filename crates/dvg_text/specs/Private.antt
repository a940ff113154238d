-- Definitions for the code alone; no rule uses them.
pub mod Fields
pub mod Progress
pub mod Writing
