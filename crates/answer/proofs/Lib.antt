pub mod Joining
pub mod Finding
pub mod Parts
pub mod Answering
