pub mod Parts
pub mod Saying
