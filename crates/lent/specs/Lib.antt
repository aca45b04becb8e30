pub mod Lent
pub mod Evaluate
pub mod Rows
pub mod Tabulate
pub mod SameCells
pub mod Inner
