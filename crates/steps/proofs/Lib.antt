pub mod Kept
pub mod Passing
pub mod Filling
pub mod Gathering
pub mod Live
