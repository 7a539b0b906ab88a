pub mod ListedLemmas
pub mod NamedLemmas
pub mod WalkLemmas
