pub mod Produced
pub mod ReadWritten
pub mod SameBytes
pub mod SameFiles
pub mod WrittenAccepted
pub mod WrittenFile
pub mod WrittenRead
pub mod WrittenSmall
