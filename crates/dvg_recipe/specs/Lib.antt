pub mod Recipes
pub mod Limits
pub mod Lengths
pub mod Private
pub mod Means
pub mod Members
pub mod Examples
