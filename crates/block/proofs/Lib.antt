pub mod Check
pub mod Elements
pub mod StreamBits
pub mod UnusedBits
pub mod Words
