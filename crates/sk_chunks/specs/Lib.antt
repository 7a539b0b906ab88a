pub mod Postings
pub mod Chunks
