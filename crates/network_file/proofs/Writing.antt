pub mod WriteCall
pub mod WrittenBlocks
pub mod WrittenFields
