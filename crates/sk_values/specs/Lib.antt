pub mod SlotValues
pub mod Held
pub mod Numbers
pub mod RangeCursor
pub mod Behind
pub mod Zones
