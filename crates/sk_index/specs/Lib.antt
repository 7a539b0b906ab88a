pub mod Indexed
pub mod Placed
pub mod Stands
pub mod Unpacked
