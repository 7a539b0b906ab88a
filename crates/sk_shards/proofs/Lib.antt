pub mod ForestLemmas
pub mod OpenLemmas
pub mod FirstLemmas
pub mod PassedLemmas
pub mod TurnLemmas
pub mod FinishLemmas
pub mod PartsLemmas
