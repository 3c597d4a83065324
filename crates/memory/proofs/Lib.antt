pub mod Mix
pub mod Copying
pub mod Parts
pub mod Numbers
pub mod Reading
