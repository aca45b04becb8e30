pub mod Diagram
pub mod Network
pub mod Trace
pub mod Bound
