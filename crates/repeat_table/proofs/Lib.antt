pub mod Spelling
pub mod Listed
