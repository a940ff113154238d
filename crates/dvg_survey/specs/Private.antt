-- Definitions for the code alone; no clause of a public call uses them.
pub mod Walking
pub mod Surveying
pub mod Reaching
pub mod KeyedWords
pub mod Visiting
pub mod Sweeping
pub mod Extents
