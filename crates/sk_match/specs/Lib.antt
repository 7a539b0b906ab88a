pub mod Searches
pub mod Paces
