pub mod StateWords
pub mod AnswerWords
pub mod SmallValues
pub mod Calling
pub mod Demanded
pub mod NewCare
