pub mod Trying
pub mod Calls
pub mod Reading
