pub mod Stepping
pub mod Patterning
