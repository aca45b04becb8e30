pub mod Lists
pub mod Bits
pub mod Sums
pub mod Written
pub mod Most
