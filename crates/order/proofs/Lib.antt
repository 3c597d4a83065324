pub mod Tally
pub mod Keying
pub mod Keys
pub mod Reading
