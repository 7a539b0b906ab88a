pub mod Sums
pub mod Pages
pub mod Wilds
