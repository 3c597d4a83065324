pub mod Sums
pub mod Taking
pub mod Looked
pub mod Closing
