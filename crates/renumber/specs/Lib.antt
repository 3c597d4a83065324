pub mod Ranked
pub mod Placing
