pub mod Fill
pub mod Halves
