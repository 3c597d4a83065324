pub mod Work
pub mod Search
