pub mod Compared
pub mod Below
pub mod UpTo
pub mod Sums
pub mod Total
pub mod Differences
pub mod Most
