pub mod Answers
pub mod Frames
pub mod Recipes
pub mod Private
