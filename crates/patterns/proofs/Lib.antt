pub mod Keying
pub mod Repeating
pub mod Lengths
pub mod Coding
