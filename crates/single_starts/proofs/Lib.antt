pub mod Stepping
pub mod Numbers
pub mod Singles
