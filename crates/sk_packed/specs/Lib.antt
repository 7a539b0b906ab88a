pub mod Apart
pub mod Packed
pub mod Payloads
