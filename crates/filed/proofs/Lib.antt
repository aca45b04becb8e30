pub mod BuiltCanonical
pub mod FileBytes
pub mod FiledCases
pub mod FiledOutput
