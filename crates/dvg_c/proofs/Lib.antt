pub mod Common
pub mod Counting
pub mod Cutting
pub mod Made
