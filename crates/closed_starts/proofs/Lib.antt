pub mod Emitting
pub mod Striking
pub mod Passing
