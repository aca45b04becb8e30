pub mod LinkedOutputs
