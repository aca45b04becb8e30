pub mod Answers
pub mod Filling
pub mod FreeRows
pub mod HeldFilling
pub mod TriedCounts
pub mod TrialAnswers
