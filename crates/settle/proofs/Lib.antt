pub mod Saving
pub mod Indexing
pub mod Settling
