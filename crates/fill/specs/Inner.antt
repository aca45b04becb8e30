pub mod Descent
pub mod Filling
pub mod Lowering
