pub mod BestLevel
pub mod CountSucceeds
pub mod LentCounts
pub mod MovedCounts
pub mod MovedEntries
pub mod SiftedCounts
pub mod ReorderedHeading
