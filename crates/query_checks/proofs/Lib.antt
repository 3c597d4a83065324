pub mod Lacking
pub mod Both
pub mod Named
