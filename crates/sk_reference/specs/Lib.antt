pub mod Searches
pub mod Shelved
