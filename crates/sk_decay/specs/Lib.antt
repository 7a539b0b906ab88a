pub mod Sides
pub mod Changes
pub mod Heads
