mod TermLemmas
mod PieceLemmas
pub mod TokenLemmas
mod FitLemmas
mod LeafLemmas
mod NestLemmas
pub mod FitLaws
