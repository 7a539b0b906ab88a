pub mod Ends
pub mod Entries
pub mod Joined
pub mod Places
pub mod Runs
