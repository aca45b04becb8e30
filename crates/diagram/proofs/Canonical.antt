pub mod Reduced
pub mod Walk
pub mod NetworkReduced
pub mod Spread
pub mod StructureGives
pub mod GivesStructure
pub mod NetworkIff
pub mod SameCells
