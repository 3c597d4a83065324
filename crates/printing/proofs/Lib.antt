pub mod Putting
pub mod Examples
