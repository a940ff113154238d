pub mod Common
mod Parts
mod Naming
mod Progress
