pub mod Over
pub mod Paste
pub mod Splice
pub mod Windows
pub mod Zeros
pub mod Filled
pub mod Outside
pub mod Rest
