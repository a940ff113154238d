pub mod Clocks
pub mod Forecasts
pub mod Sums
pub mod Kept
pub mod Judging
pub mod Laws
pub mod Example
pub mod Private
