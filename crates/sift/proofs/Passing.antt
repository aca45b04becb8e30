pub mod LeadingVariable
pub mod NextVariable
pub mod SiftedMarks
pub mod OneTurn
pub mod PassUnderWay
pub mod PassOutcome
pub mod Limits
