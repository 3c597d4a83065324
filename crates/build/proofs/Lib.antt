pub mod Listing
pub mod Staged
pub mod Building
