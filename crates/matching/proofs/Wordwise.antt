pub mod Bytes
pub mod HalfWords
pub mod PartWords
pub mod WholeWords
