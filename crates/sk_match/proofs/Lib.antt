pub mod TurnLemmas
pub mod PassLemmas
pub mod FinishLemmas
pub mod StrideLemmas
