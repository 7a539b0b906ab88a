pub mod Tallied
pub mod Counts
