pub mod CaredBits
pub mod PlaneBits
pub mod PlaneSize
