-- What only the contracts inside this crate cite: no public contract reaches these.
pub mod Entries
pub mod Counts
pub mod Trials
pub mod Choice
pub mod Turns
