pub mod FirstSeen
pub mod SeenClasses
pub mod Rising
pub mod Followed
pub mod TracedLevel
pub mod Traced
