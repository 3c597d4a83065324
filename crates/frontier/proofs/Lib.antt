pub mod Grow
pub mod Leads
pub mod Marks
pub mod Spreading
pub mod Search
pub mod Stands
pub mod Front
