pub mod Lines
pub mod Front
pub mod Faults
pub mod Candidates
pub mod Told
pub mod Differences
