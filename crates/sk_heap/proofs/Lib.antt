mod HeapLemmas
mod BestLemmas
mod CallLemmas
pub mod HeapLaws
mod Examples
