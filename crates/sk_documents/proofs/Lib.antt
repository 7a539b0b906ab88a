pub mod SoundLaws
mod RemovingLemmas
mod EditLemmas
pub mod TurnLaws
mod GatherLaws
pub mod AllTurnsLaws
