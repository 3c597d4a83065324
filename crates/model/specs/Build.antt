-- What the build of an index goes by.
pub mod Hubs
pub mod Suffixes
pub mod Renumber
