pub mod Answer
pub mod Stream
pub mod State
pub mod File
pub mod Calls
pub mod Inner
pub mod Sizes
