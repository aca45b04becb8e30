pub mod Bits
pub mod Block
pub mod Numbers
pub mod Sealed
pub mod Inner
