pub mod Forests
pub mod Sharded
pub mod Turning
