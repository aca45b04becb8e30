pub mod Buffers
pub mod Linking
pub mod Parts
pub mod Wordwise
