pub mod AsBuilt
pub mod Inner
pub mod Swap
