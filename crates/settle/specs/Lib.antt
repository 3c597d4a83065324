pub mod Indexing
pub mod Settle
