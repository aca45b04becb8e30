pub mod Canonical
pub mod SameCells
pub mod Inner
