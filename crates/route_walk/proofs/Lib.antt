pub mod Tracing
pub mod Lighting
