pub mod FileText
pub mod FileOutput
pub mod NeverCut
pub mod OutputCases
pub mod SmallNumbers
pub mod TextLength
pub mod WholeTexts
