pub mod Limits
pub mod Cutting
pub mod Grammar
pub mod Labels
pub mod Reading
