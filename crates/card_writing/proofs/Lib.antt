pub mod Writing
pub mod WriteChecks
