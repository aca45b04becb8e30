pub mod Gathered
pub mod Tabulated
pub mod Tabulating
pub mod WholePlane
