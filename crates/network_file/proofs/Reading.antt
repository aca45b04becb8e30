pub mod BlockRead
pub mod Checked
pub mod Copied
pub mod ReadAnswer
pub mod ReadCall
pub mod ReadState
pub mod ReadTable
