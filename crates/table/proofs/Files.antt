pub mod Accepted
pub mod Answers
pub mod Heading
pub mod Reader
pub mod Loaded
pub mod LoadCall
