pub mod HeldAlike
pub mod Answered
pub mod Shown
pub mod Planes
pub mod Lendable
