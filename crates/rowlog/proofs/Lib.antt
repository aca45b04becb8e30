pub mod Counting
pub mod Caring
pub mod Answered
pub mod LogThen
pub mod Logs
pub mod Sequences
