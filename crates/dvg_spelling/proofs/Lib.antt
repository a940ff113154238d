pub mod Common
pub mod Lines
pub mod Tables
pub mod Tallies
pub mod Windows
pub mod Withins
