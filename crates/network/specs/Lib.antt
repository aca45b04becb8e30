pub mod Build
pub mod Levels
pub mod Reading
pub mod SameCells
