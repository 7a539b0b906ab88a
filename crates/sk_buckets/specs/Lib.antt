pub mod Marks
pub mod Dealt
