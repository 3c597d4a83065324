pub mod Marking
pub mod Saying
