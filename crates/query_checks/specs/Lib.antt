pub mod SearchChecks
