pub mod Flying
pub mod Told
pub mod Kept
