pub mod Table
pub mod Placing
