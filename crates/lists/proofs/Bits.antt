pub mod Digits
pub mod Packed
pub mod Masks
pub mod Ones
