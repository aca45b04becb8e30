pub mod Bools
pub mod Bits
pub mod Numbers
pub mod Lists
pub mod Written
