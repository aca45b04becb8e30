pub mod AcceptedNetwork
pub mod FileSizes
pub mod SealedBlock
