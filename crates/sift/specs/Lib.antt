pub mod Calls
pub mod Moves
pub mod Limits
pub mod Inner
