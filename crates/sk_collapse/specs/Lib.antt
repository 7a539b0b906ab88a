pub mod Collapsed
pub mod Verdicts
pub mod Groups
