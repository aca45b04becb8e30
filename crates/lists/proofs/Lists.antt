pub mod Membership
pub mod Less
pub mod Grown
pub mod Distinct
pub mod Equal
pub mod Mapped
