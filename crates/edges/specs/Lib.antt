pub mod Memory
pub mod Slots
pub mod Grouped
