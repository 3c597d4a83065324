pub mod Trails
pub mod Turning
pub mod Suffixed
