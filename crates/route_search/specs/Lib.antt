pub mod Work
pub mod Traced
