pub mod FirstOf
pub mod Telling
