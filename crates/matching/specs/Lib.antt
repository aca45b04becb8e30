pub mod Links
pub mod Bytes
pub mod Parts
pub mod Level
pub mod Exchange
pub mod Fits
pub mod Inner
