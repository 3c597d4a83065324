pub mod Sizing
