pub mod Held
pub mod Outcomes
pub mod Variants
pub mod Files
pub mod Ordering
pub mod Planes
