pub mod GreatestLaws
mod ChunkLemmas
mod Examples
