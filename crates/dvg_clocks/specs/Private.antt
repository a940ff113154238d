-- Definitions for the code and the proofs alone; no rule uses them.
pub mod Taking
pub mod Walking
