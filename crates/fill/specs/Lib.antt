pub mod Work
pub mod Calls
pub mod Counts
pub mod Inner
