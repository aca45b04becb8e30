pub mod Order
pub mod Sift
pub mod Moves
pub mod Limits
