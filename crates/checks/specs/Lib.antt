pub mod LayoutChecks
