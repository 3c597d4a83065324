pub mod Region
pub mod Rows
pub mod Numbers
