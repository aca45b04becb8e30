pub mod EntriesRoom
pub mod LinksRoom
pub mod RegionRoom
