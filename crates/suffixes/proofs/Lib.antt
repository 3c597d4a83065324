pub mod Own
pub mod Entries
pub mod Children
pub mod Leafing
pub mod Labels
pub mod Levelling
pub mod Noding
