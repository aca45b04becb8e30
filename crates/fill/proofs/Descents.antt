pub mod EntryCounts
pub mod LevelsBelow
pub mod TreeDescent
pub mod WayDown
