pub mod File
pub mod Read
pub mod Write
pub mod SameFiles
pub mod Inner
