pub mod Sizes
pub mod Gather
pub mod Inner
pub mod Pack
