-- Lemmas.
mod TermLemmas
mod NextLemmas
pub mod AsciiLaws
pub mod LayoutLemmas
pub mod WordLaws
mod CuttingLemmas
