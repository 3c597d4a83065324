pub mod Work
pub mod Counting
