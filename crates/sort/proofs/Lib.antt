pub mod Sorting
pub mod Turning
pub mod Apart
