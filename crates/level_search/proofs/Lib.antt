pub mod Built
pub mod Call
