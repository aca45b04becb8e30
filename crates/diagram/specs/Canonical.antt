pub mod Computed
pub mod Structure
pub mod SameCells
