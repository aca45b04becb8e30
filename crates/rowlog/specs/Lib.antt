pub mod Log
pub mod Sequence
pub mod Inner
