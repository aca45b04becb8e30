pub mod Building
pub mod LinksRead
