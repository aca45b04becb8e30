pub mod Exchanged
pub mod Orders
pub mod VariableLevels
pub mod Swapped
