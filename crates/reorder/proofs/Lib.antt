pub mod Doubled
pub mod DrawnBytes
pub mod Gathered
pub mod Pack
pub mod RowBits
pub mod Shares
pub mod Shifts
