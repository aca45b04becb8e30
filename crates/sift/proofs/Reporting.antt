pub mod Report
pub mod MovesOutcome
