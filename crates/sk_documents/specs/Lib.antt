pub mod Documented
pub mod Gathered
pub mod Removing
pub mod Turned
