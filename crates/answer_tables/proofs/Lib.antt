pub mod Marking
pub mod Linking
