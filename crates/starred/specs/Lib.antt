pub mod Shown
pub mod Lendable
