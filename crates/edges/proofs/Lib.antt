pub mod Memory
pub mod Scanning
pub mod BinarySearch
pub mod Shift
pub mod Slots
pub mod Turned
