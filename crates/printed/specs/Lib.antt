pub mod Input
pub mod Built
pub mod BuiltInput
pub mod Output
pub mod Inner
