pub mod Widths
