pub mod Told
pub mod Alone
pub mod ByCertificate
pub mod Texts
pub mod Making
pub mod Recipes
