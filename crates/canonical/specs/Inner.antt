pub mod Reduced
pub mod Walk
