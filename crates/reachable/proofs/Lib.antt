pub mod AllLevels
