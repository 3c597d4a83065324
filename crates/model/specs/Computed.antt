-- What computes: each definition here is tied by `Meaning` (demands) to document 01's words, which the files beside this one state.
pub mod Lists
pub mod Edges
pub mod Patterns
pub mod Table
pub mod Order
pub mod Levels
pub mod Routes
pub mod Entries
pub mod Query
