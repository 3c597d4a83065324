pub mod Ledger
pub mod Terms
pub mod Demand1
pub mod Demand2
pub mod Meaning
pub mod Run
pub mod Needs
