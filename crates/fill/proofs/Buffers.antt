pub mod HeldParts
pub mod Sizes
