pub mod CountedLevel
pub mod FirstKept
pub mod LevelsCounted
pub mod LoweredLevel
pub mod LoweredTrees
pub mod Trials
pub mod TrialSizes
