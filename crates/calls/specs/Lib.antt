pub mod Checks
pub mod Call
pub mod Search
pub mod Route
pub mod Query
pub mod QueryTwo
pub mod Change
pub mod Card
