-- Definitions for the code alone; no clause of a public call uses them.
pub mod Indices
pub mod FrameItems
pub mod Hulls
pub mod Judging
pub mod Clocks
pub mod KnownPlaces
