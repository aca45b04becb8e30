pub mod Cells
pub mod Tabulate
