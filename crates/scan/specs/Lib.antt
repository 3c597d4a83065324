pub mod Memory
pub mod Scan
