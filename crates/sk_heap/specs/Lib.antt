pub mod Held
pub mod Heaps
pub mod Sound
