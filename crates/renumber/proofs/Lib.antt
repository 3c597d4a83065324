pub mod Inverting
pub mod Starting
pub mod Placing
pub mod Grouping
pub mod Renumbering
