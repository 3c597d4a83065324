pub mod Fields
pub mod Scanning
pub mod Skimming
