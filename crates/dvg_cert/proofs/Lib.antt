pub mod Common
pub mod Rising
pub mod ListParts
pub mod OnlyEntries
pub mod Searching
pub mod Pairs
pub mod Hashing
