pub mod CountedCells
pub mod LinkPairs
pub mod LinkedLevels
pub mod PerLevel
