pub mod SiftOutcome
pub mod StaysPut
