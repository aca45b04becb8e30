pub mod Format
pub mod Reading
pub mod RoundTrips
pub mod WorkLeft
pub mod Writing
