pub mod Chunks
pub mod ExchangedPlanes
pub mod Fitting
pub mod PartLengths
pub mod WrittenLevel
