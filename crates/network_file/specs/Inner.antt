pub mod Reader
pub mod Writable
pub mod Checked
