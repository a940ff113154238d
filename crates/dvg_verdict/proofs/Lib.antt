pub mod Common
pub mod OneVerdict
