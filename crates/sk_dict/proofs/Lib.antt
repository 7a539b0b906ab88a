-- Lemmas.
pub mod NumberLaws
pub mod WalkLaws
mod EachLemmas
mod RisingLemmas
mod BlockLemmas
mod OrderLemmas
mod HeadLemmas
mod CutLemmas
mod FindLemmas
mod PrefixLemmas
mod WalkLemmas
mod Examples
