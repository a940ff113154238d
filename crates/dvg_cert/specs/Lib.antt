pub mod Limits
pub mod Entry
pub mod Order
pub mod Numbers
pub mod Laws
pub mod Lookup
pub mod Private
