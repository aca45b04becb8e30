-- What only the contracts inside this crate cite: no public contract reaches these.
pub mod Care
