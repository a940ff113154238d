pub mod Kept
pub mod Timed
pub mod Private
