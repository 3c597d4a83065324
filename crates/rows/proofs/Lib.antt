pub mod Bits
pub mod Writes
pub mod Passed
pub mod Rows
