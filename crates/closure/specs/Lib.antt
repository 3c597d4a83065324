pub mod Closing
pub mod Turns
