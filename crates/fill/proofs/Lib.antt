pub mod Buffers
pub mod Calls
pub mod Counting
pub mod Descents
pub mod Linking
pub mod Lowered
pub mod Room
