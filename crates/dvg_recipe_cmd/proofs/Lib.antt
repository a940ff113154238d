pub mod Common
pub mod RecipeLines
pub mod Verdicts
