pub mod Holding
pub mod Taking
pub mod Finding
