pub mod NetworkFile
pub mod Inner
