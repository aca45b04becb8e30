pub mod InputCases
pub mod LoadedInput
pub mod BuiltCases
pub mod BuiltFile
pub mod BoardEnough
