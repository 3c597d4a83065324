pub mod Build
pub mod Staging
