pub mod Terms
pub mod Heads
pub mod Cuts
pub mod Searches
pub mod Order
pub mod Blocks
