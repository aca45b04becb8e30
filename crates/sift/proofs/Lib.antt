pub mod FreeRows
pub mod Trying
pub mod Passing
pub mod Sifting
pub mod Reporting
