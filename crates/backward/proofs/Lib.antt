pub mod Turning
pub mod Searching
